-- The loop that reads the ticks of a call, word by word.
use Rattle.std.proofs.Common.{◌≡◌, ◌∙◌, ◌+◌, ◌<◌, ◌≤◌, ◌++◌, ◌&&◌, ℕ, true, List, [], ◌∷◌, Some, None, Bor, is_some, unwrap_or}
use Rattle.std.proofs.Common.{length, get_or, take, ap, sym, subst, refl, arith}
use Rattle.std.proofs.lemmas.Bool.{false≢true}
use Rattle.std.proofs.lemmas.List.{get_or-map, length-map, map-append, take_all, take_more}
use Rattle.std.proofs.lemmas.List.Folds.{list_all-append, list_all_at}
use Rattle.stations.specs.declared.tick.Tick.{Tick}
use Rattle.stations.specs.declared.tick.Tick.TheVariants as ticks
use Rattle.scenario.specs.Answers.{AreTicks, IsFaultyCall}
use Rattle.scenario.specs.Meanings.{are_ticks, are_ticks_of, ticks_in}
use Rattle.scenario.specs.SoFar.{Host}
use Rattle.scenario.specs.Stops.{IfFault}
use Rattle.scenario.specs.TickWords.{tick_named}
use Rattle.scenario.specs.Words.{Text, texts}
use Rattle.scenario.specs.declared.refusal.Fault.{Fault}
use Rattle.scenario.specs.declared.refusal.Fault.TheVariants as fault
use Rattle.scenario.specs.declared.refusal.Stop.{Stop}
use Rattle.scenario.specs.declared.refusal.Stop.TheVariants as stop

module _ (hosts : List Host) where
  pub no_ticks : AreTicks hosts [] []
  no_ticks = record { known = refl; spelled = refl }

  pub one_more : (words : List (Bor Text)) (i : ℕ) (d : Bor Text) (tick : Tick) (read : List Tick) → i < length words
      → tick_named hosts (get_or words i d).now ≡ Some tick → AreTicks hosts (texts (take i words)) read
      → AreTicks hosts (texts (take (i + 1) words)) (read ++ tick ∷ [])
  one_more words i d tick read below found before =
      let word = get_or words i d in
      let front = texts (take i words) in
      let next : texts (take (i + 1) words) ≡ front ++ word.now ∷ [] =
      ap texts (take_more words i d below) ∙ map-append (λ (w : Bor Text). w.now) (take i words) (word ∷ []) in
      let is_known = λ (one : Text). is_some (tick_named hosts one) in
      let read_as = λ (one : Text). unwrap_or (tick_named hosts one) ticks.Go in
      let known : is_known word.now ≡ true = ap is_some found in
      let spelled : read_as word.now ≡ tick = ap (λ o. unwrap_or o ticks.Go) found in
      subst (λ (all : List Text). AreTicks hosts all (read ++ tick ∷ [])) (sym next) (record {
        known = list_all-append is_known front (word.now ∷ []) ∙ ap (λ b. b && (is_known word.now && true)) before.known
            ∙ ap (λ b. true && (b && true)) known;
        spelled = ap (λ (ts : List Tick). ts ++ tick ∷ []) before.spelled
            ∙ ap (λ (t : Tick). ticks_in hosts front ++ t ∷ []) (sym spelled) ∙ sym (map-append read_as front (word.now ∷ []));
      })

  pub all_read : (words : List (Bor Text)) (i : ℕ) (read : List Tick) → length words ≤ i → AreTicks hosts (texts (take i words)) read
      → AreTicks hosts (texts words) read
  all_read words i read end before = subst (λ (all : List (Bor Text)). AreTicks hosts (texts all) read) (take_all i words end) before

  pub one_unknown : (words : List (Bor Text)) (i : ℕ) (d : Bor Text) → i < length words → tick_named hosts (get_or words i d).now ≡ None
      → ¬ (are_ticks_of hosts (texts words) ≡ true)
  one_unknown words i d below missing all =
      let is_known = λ (one : Text). is_some (tick_named hosts one) in
      let text = get_or-map (λ (w : Bor Text). w.now) words i d [] below in
      let count = length-map words (λ (w : Bor Text). w.now) in
      false≢true (sym (list_all_at is_known (texts words) i [] (omega (arith, count)) (ap is_known text ∙ ap is_some missing)) ∙ all)

  pub ticks_stopped : (name : Text) (words : List Text) → are_ticks words ≡ true → (one : Stop)
      → IfFault one (λ f. (f ≡ fault.Name) × (¬ (are_ticks_of hosts words ≡ true))) → IfFault one (IsFaultyCall hosts name words)
  ticks_stopped name words spelled stop.Memory h = tt
  ticks_stopped name words spelled (stop.Fault f) h =
      subst (λ (g : Fault). IsFaultyCall hosts name words g) (sym h.0) (spelled, λ known. h.1 known.inside)
