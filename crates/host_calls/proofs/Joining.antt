-- Two consecutive lists of happenings join, host by host.
use Rattle.std.proofs.Common.{◌≡◌, ◌+◌, ◌++◌, ◌∷◌, [], ◌==◌, ◌&&◌, not, ℕ, true, false, Option, List, drop, if◌then◌else◌, refl, ap, subst}
use Rattle.std.proofs.Common.{append_assoc, sym, ◌∙◌}
use Rattle.std.proofs.lemmas.Grind.{flat_map-append}
use Rattle.std.proofs.lemmas.List.Sums.{sum_by-append}
use Rattle.rx_engine.specs.Arriving.{kept}
use Rattle.rx_filter.specs.Registers.{FilterRegisters}
use Rattle.host_calls.specs.Fates.{AreGroupsAfter, AreRightByList, AreRightFates, Came, Emptied, Joins, Mark, Quits, Reception, SwitchedOff}
use Rattle.host_calls.specs.Fates.{SwitchedOn, Went, buffered_after, enabled_after, mark_by, marks}
use Rattle.host_calls.specs.Happenings.{
  Happening,
  Put,
  accepted,
  accepted_in_one,
  given,
  given_in_one,
  missed,
}
use Rattle.host_calls.specs.Happenings.{missed_of, put, put_in_one, reached, reached_by, share_wire, stored, stored_by, toward, toward_by}

pub accepted-append : (k : ℕ) (first later : List Happening) → accepted k (first ++ later) ≡ accepted k first ++ accepted k later
accepted-append k first later = flat_map-append (accepted_in_one k) first later

pub put-append : (k : ℕ) (first later : List Happening) → put k (first ++ later) ≡ put k first ++ put k later
put-append k first later = flat_map-append (put_in_one k) first later

pub reached-append : (k : ℕ) (first later : List Happening) → reached k (first ++ later) ≡ reached k first ++ reached k later
reached-append k first later = flat_map-append (reached_by k) first later

pub stored-append : (k : ℕ) (first later : List Happening) → stored k (first ++ later) ≡ stored k first ++ stored k later
stored-append k first later = flat_map-append (stored_by k) first later

pub given-append : (k socket : ℕ) (first later : List Happening)
    → given k socket (first ++ later) ≡ given k socket first ++ given k socket later
given-append k socket first later = flat_map-append (given_in_one k socket) first later

pub toward-append : (wires : ℕ → Option ℕ) (k : ℕ) (first later : List Happening)
    → toward wires k (first ++ later) ≡ toward wires k first ++ toward wires k later
toward-append wires k first later = flat_map-append (toward_by wires k) first later

pub missed-append : (k : ℕ) (first later : List Happening) → missed k (first ++ later) ≡ missed k first + missed k later
missed-append k first later = sum_by-append (missed_of k) first later

pub marks-append : (k : ℕ) (first later : List Happening) → marks k (first ++ later) ≡ marks k first ++ marks k later
marks-append k first later = flat_map-append (mark_by k) first later

-- The same wires

by-same : (wires others : ℕ → Option ℕ) (k : ℕ) (one : Happening) → ((host : ℕ) → wires host ≡ others host)
    → toward_by wires k one ≡ toward_by others k one
by-same wires others k (Put host frame) same =
    ap (λ (wire : Option ℕ). if not (k == host) && share_wire wire (wires host) then frame ∷ [] else []) (same k)
    ∙ ap (λ (wire : Option ℕ). if not (k == host) && share_wire (others k) wire then frame ∷ [] else []) (same host)
by-same wires others k _ same = refl

pub toward-same : (wires others : ℕ → Option ℕ) (k : ℕ) (happened : List Happening) → ((host : ℕ) → wires host ≡ others host)
    → toward wires k happened ≡ toward others k happened
toward-same wires others k [] same = refl
toward-same wires others k (one ∷ later) same =
    ap (λ (front : List (List ℕ)). front ++ toward wires k later) (by-same wires others k one same)
    ∙ ap (λ (behind : List (List ℕ)). toward_by others k one ++ behind) (toward-same wires others k later same)

-- Frames that wait

pub waits-append :
    (k : ℕ) (wires others : ℕ → Option ℕ) (first later : List Happening) (old mid new : List (List ℕ))
    → ((host : ℕ) → others host ≡ wires host) → reached k first ++ mid ≡ old ++ toward wires k first
    → reached k later ++ new ≡ mid ++ toward others k later
    → reached k (first ++ later) ++ new ≡ old ++ toward wires k (first ++ later)
waits-append k wires others first later old mid new same one two =
    ap (λ (front : List (List ℕ)). front ++ new) (reached-append k first later)
    ∙ append_assoc (reached k first) (reached k later) new
    ∙ ap (λ (behind : List (List ℕ)). reached k first ++ behind)
    (two ∙ ap (λ (behind : List (List ℕ)). mid ++ behind) (toward-same others wires k later same))
    ∙ sym (append_assoc (reached k first) mid (toward wires k later))
    ∙ ap (λ (front : List (List ℕ)). front ++ toward wires k later) one
    ∙ append_assoc old (toward wires k first) (toward wires k later)
    ∙ ap (λ (behind : List (List ℕ)). old ++ behind) (sym (toward-append wires k first later))

-- Fates

pub fates-append : (registers : FilterRegisters) (room : ℕ) (n m l : Reception) (first later : List Mark)
    → AreRightFates registers room n first m → AreRightFates registers room m later l → AreRightFates registers room n (first ++ later) l
fates-append registers room n m l [] later one two = subst (λ (now : Reception). AreRightFates registers room now later l) one two
fates-append registers room n m l (Came frame fate ∷ first) later one two =
    (one.0, fates-append registers room (record n { buffered = n.buffered ++ kept fate frame }) m l first later one.1 two)
fates-append registers room n m l (Went ∷ first) later one two =
    (one.0, one.1, fates-append registers room (record n { buffered = drop 1 n.buffered }) m l first later one.2 two)
fates-append registers room n m l (Joins group ∷ first) later one two =
    fates-append registers room (record n { groups = n.groups ++ group ∷ [] }) m l first later one two
fates-append registers room n m l (Quits group ∷ first) later one two =
    (one.0, one.1, fates-append registers room (record n { groups = one.0 }) m l first later one.2 two)
fates-append registers room n m l (SwitchedOff ∷ first) later one two =
    fates-append registers room (record n { enabled = false }) m l first later one two
fates-append registers room n m l (SwitchedOn ∷ first) later one two =
    fates-append registers room (record n { enabled = true }) m l first later one two
fates-append registers room n m l (Emptied ∷ first) later one two =
    fates-append registers room (record n { buffered = [] }) m l first later one two

-- After the marks `first`, the reception is known, and the fates of the marks `later` are right from this reception on.
record After (registers : FilterRegisters) (room : ℕ) (start : Reception) (first later : List Mark) (final : Reception) : Type 0 where
  groups : List (List ℕ)
  are : AreGroupsAfter start.groups first groups
  fates : AreRightFates registers room (record {
    groups = groups;
    buffered = buffered_after start.buffered first;
    enabled = enabled_after start.enabled first;
  }) later final

fates-after : (registers : FilterRegisters) (room : ℕ) (start final : Reception) (first later : List Mark)
    → AreRightFates registers room start (first ++ later) final → After registers room start first later final
fates-after registers room start final [] later are = record { groups = start.groups; are = refl; fates = are }
fates-after registers room start final (Came frame fate ∷ first) later are =
    let next : Reception = record start { buffered = start.buffered ++ kept fate frame } in
    let after = fates-after registers room next final first later are.1 in
    record { groups = after.groups; are = after.are; fates = after.fates }
fates-after registers room start final (Went ∷ first) later are =
    let next : Reception = record start { buffered = drop 1 start.buffered } in
    let after = fates-after registers room next final first later are.2 in
    record { groups = after.groups; are = after.are; fates = after.fates }
fates-after registers room start final (Joins group ∷ first) later are =
    let next : Reception = record start { groups = start.groups ++ group ∷ [] } in
    let after = fates-after registers room next final first later are in
    record { groups = after.groups; are = after.are; fates = after.fates }
fates-after registers room start final (Quits group ∷ first) later are =
    let next : Reception = record start { groups = are.0 } in
    let after = fates-after registers room next final first later are.2 in
    record { groups = after.groups; are = (are.0, are.1, after.are); fates = after.fates }
fates-after registers room start final (SwitchedOff ∷ first) later are =
    let next : Reception = record start { enabled = false } in
    let after = fates-after registers room next final first later are in
    record { groups = after.groups; are = after.are; fates = after.fates }
fates-after registers room start final (SwitchedOn ∷ first) later are =
    let next : Reception = record start { enabled = true } in
    let after = fates-after registers room next final first later are in
    record { groups = after.groups; are = after.are; fates = after.fates }
fates-after registers room start final (Emptied ∷ first) later are =
    let next : Reception = record start { buffered = [] } in
    let after = fates-after registers room next final first later are in
    record { groups = after.groups; are = after.are; fates = after.fates }

pub fates-by_list : (registers : FilterRegisters) (room : ℕ) (start final : Reception) (all : List Mark)
    → AreRightFates registers room start all final → AreRightByList registers room start all
fates-by_list registers room start final all are = λ before later frame fate is.
    let after =
    fates-after registers room start final before (Came frame fate ∷ later)
    (subst (λ (list : List Mark). AreRightFates registers room start list final) is are)
    in
    record { groups = after.groups; are = after.are; right = after.fates.0 }
