-- The record of a drain: it doesn't depend on the number of moved frames, and grows frame by frame in the loop of `note_drained`.
use Rattle.std.proofs.Common.{◌≡◌, ◌++◌, ◌∷◌, [], zero, suc, ℕ, List, Option, Some, None, map, option_map, slice_get}
use Rattle.std.proofs.Common.{◌<◌, ◌+◌, length, slice_index_or, take, arith}
use Rattle.std.proofs.Common.{refl, sym, ap, subst, ◌∙◌, append_assoc}
use Rattle.std.specs.Prelude.{replicate}
use Rattle.std.proofs.lemmas.Grind.{common_steps, flat_map-append}
use Rattle.std.proofs.lemmas.List.{map-append}
use Rattle.std.proofs.lemmas.List.Sums.{fold-append}
use Rattle.std.specs.List.{fold}
use Rattle.packet_socket.specs.HostCalls.{Given as GivenFrame}
use Rattle.host_calls.specs.Happenings.{Given, Happening, Moved}
use Rattle.wire.specs.DrainedNetworks.{said_of_drain}
use Rattle.run_record.specs.Acts.{Act, Drained, history}
use Rattle.run_record.specs.EventLines.{place_in_run}
use Rattle.run_record.specs.DrainedView.{drained_frame}
use Rattle.run_record.specs.Kept.{FramesGrow, KeptFrame, PutsGrow, kept_frame, returned_frame_in, returned_in}
use Rattle.run_record.specs.RunLogs.{act_logged, acts_in, logged}
use Rattle.run_record.specs.Tallies.{AreNoted, TalliesGrow, TallyCounts, tallied_by, tally_behind}
use Rattle.run_record.specs.declared.record.Record.{Record}
use Rattle.run_record.specs.declared.run_log.RunLog.{RunLog}
use Rattle.run_record.specs.declared.drained.DrainedFrame.{DrainedFrame}
use Rattle.run_record.specs.declared.tally.Passage.TheVariants as passage
use Rattle.run_record.specs.declared.tally.Tally.{Tally}
use Rattle.run_record.specs.RecordingLaws.{frames_join, grows_join, grows_not}
use Rattle.run_record.proofs.NotedEvents.{puts_drained, returned_none}

abbrev given-at : (host : ℕ) → GivenFrame → Happening
given-at host one = Given host one.socket one.frame

-- Moved frames aren't counted, and no socket returns them.

moved-counts : (moves host k : ℕ) (tally : Tally) → fold (tallied_by k) tally (replicate moves (Moved host)) ≡ tally
moved-counts zero host k tally = refl
moved-counts (suc moves) host k tally = moved-counts moves host k tally

moved-gives : (number host moves : ℕ) (later : List Happening)
    → returned_in number (replicate moves (Moved host) ++ later) ≡ returned_in number later
moved-gives number host zero later = refl
moved-gives number host (suc moves) later = moved-gives number host moves later

moves-count : (host buffered k : ℕ) (frames : List GivenFrame) (tally : Tally)
    → tally_behind (history (Drained host 0 frames ∷ [])) k tally ≡ tally_behind (history (Drained host buffered frames ∷ [])) k tally
moves-count host buffered k frames tally =
    let moved = replicate buffered (Moved host) in
    let said = map (given-at host) frames in
    sym (ap (fold (tallied_by k) tally) (append_assoc moved said []) ∙ fold-append (tallied_by k) tally moved (said ++ [])
    ∙ ap (λ (t : Tally). fold (tallied_by k) t (said ++ [])) (moved-counts buffered host k tally))

same-tally : (host buffered k : ℕ) (frames : List GivenFrame) (found : Option Tally)
    → option_map (tally_behind (history (Drained host 0 frames ∷ [])) k) found
    ≡ option_map (tally_behind (history (Drained host buffered frames ∷ [])) k) found
same-tally host buffered k frames None = refl
same-tally host buffered k frames (Some tally) = ap (λ (t : Tally). Some t) (moves-count host buffered k frames tally)

-- Lists of one entry.

first-act : (a b : Act) (list others : List Act) → a ∷ list ≡ b ∷ others → a ≡ b
first-act a b list others is = cc

rest-acts : (a b : Act) (list others : List Act) → a ∷ list ≡ b ∷ others → list ≡ others
rest-acts a b list others is = cc

no-acts : (a : Act) (list : List Act) → a ∷ list ≡ [] → ⊥
no-acts a list is = cc

lone-entry : (entries : List (ℕ × Act)) (act : Act) (number : ℕ) (log : RunLog) → acts_in entries ≡ act ∷ []
    → (line : ℕ) × (logged number entries log ≡ act_logged (place_in_run number line) act log)
lone-entry [] act number log is = absurd (no-acts act [] (sym is))
lone-entry (entry ∷ []) act number log is =
    (entry.0, ap (λ (one : Act). act_logged (place_in_run number entry.0) one log) (first-act entry.1 act [] [] is))
lone-entry (entry ∷ next ∷ later) act number log is =
    absurd (no-acts next.1 (acts_in later) (rest-acts entry.1 act (next.1 ∷ acts_in later) [] is))

pub noted_moves : (host buffered : ℕ) (frames : List GivenFrame) (a b : Record) → AreNoted (Drained host 0 frames ∷ []) a b
    → AreNoted (Drained host buffered frames ∷ []) a b
noted_moves host buffered frames a b noted = record {
  number = noted.number;
  hosts = λ k. noted.hosts k ∙ same-tally host buffered k frames (slice_get a.hosts.items k);
  returned = subst (λ (more : List KeptFrame). FramesGrow (more ++ []) a.returned b.returned)
      (sym (moved-gives a.number host buffered (map (given-at host) frames))) noted.returned;
  puts = subst (λ (more : List KeptFrame). PutsGrow (more ++ []) a.puts b.puts)
      (puts_drained a.number host 0 frames ∙ sym (puts_drained a.number host buffered frames)) noted.puts;
  logged =
      let one = lone-entry noted.logged.entries (Drained host 0 frames) a.number a.log noted.logged.are in
      record { entries = (one.0, Drained host buffered frames) ∷ []; are = refl; log = noted.logged.log ∙ one.1 };
}

-- Delivered frames, in order.

pub none_counted : (host : ℕ) (hosts : List Tally) → TalliesGrow (said_of_drain host 0 []) hosts hosts
none_counted host hosts = grows_not hosts

pub none_got : (host number : ℕ) (returned : List KeptFrame)
    → FramesGrow (returned_in number (said_of_drain host 0 [])) returned returned
none_got host number returned = returned_none returned

more-said : (host place : ℕ) (all : List DrainedFrame) (one : DrainedFrame) → place < length all → one ≡ slice_index_or all place one
    → said_of_drain host 0 (map drained_frame (take place all)) ++ given-at host (drained_frame one) ∷ []
    ≡ said_of_drain host 0 (map drained_frame (take (place + 1) all))
more-said host place all one below there =
    let taken : take (place + 1) all ≡ take place all ++ one ∷ [] = grind (arith, common_steps, below, there) in
    sym (ap (λ (l : List DrainedFrame). map (given-at host) (map drained_frame l)) taken
    ∙ ap (map (given-at host)) (map-append drained_frame (take place all) (one ∷ []))
    ∙ map-append (given-at host) (map drained_frame (take place all)) (drained_frame one ∷ []))

pub one_counted : (host place : ℕ) (all : List DrainedFrame) (one : DrainedFrame) (a b c : List Tally) → place < length all
    → one ≡ slice_index_or all place one → TalliesGrow (said_of_drain host 0 (map drained_frame (take place all))) a b
    → TallyCounts host passage.Given b c → TalliesGrow (said_of_drain host 0 (map drained_frame (take (place + 1) all))) a c
one_counted host place all one a b c below there has counts =
    subst (λ (l : List Happening). TalliesGrow l a c) (more-said host place all one below there)
    (grows_join (said_of_drain host 0 (map drained_frame (take place all))) (given-at host (drained_frame one) ∷ []) a b c has counts)

pub one_got : (host number place : ℕ) (all : List DrainedFrame) (one : DrainedFrame) (frame : List ℕ) (a b c : List KeptFrame)
    → place < length all → one ≡ slice_index_or all place one → frame ≡ one.frame
    → FramesGrow (returned_in number (said_of_drain host 0 (map drained_frame (take place all)))) a b
    → c ≡ b ++ kept_frame host one.socket number frame ∷ []
    → FramesGrow (returned_in number (said_of_drain host 0 (map drained_frame (take (place + 1) all)))) a c
one_got host number place all one frame a b c below there is has grown =
    let before = said_of_drain host 0 (map drained_frame (take place all)) in
    let last = given-at host (drained_frame one) ∷ [] in
    subst (λ (l : List Happening). FramesGrow (returned_in number l) a c) (more-said host place all one below there)
    (subst (λ (l : List KeptFrame). FramesGrow l a c) (sym (flat_map-append (returned_frame_in number) before last))
    (frames_join (returned_in number before) (returned_in number last) a b c has
    (grown ∙ ap (λ (fr : List ℕ). b ++ kept_frame host one.socket number fr ∷ []) is)))
