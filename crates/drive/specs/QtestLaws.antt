-- Laws of `IsSameBus` and `AsksAll`: each holds of no access, and of two consecutive intervals joined if it holds of both. What `Asks`
-- states of one access implies what `AsksAll` and `KeepsProperties` state.
use Rattle.std.proofs.Common.{◌++◌, ◌∷◌, [], ℕ, refl, sym, subst, ◌∙◌}
use Rattle.std.specs.Io.KnownBytes.{Appends}
use Rattle.std.proofs.KnownBytes.{Appends-nil, Appends-trans}
use Rattle.std.proofs.lemmas.List.{append-nil}
use Rattle.std.proofs.lemmas.List.Concat.{flat_map-append}
use Rattle.adapter.specs.bus_types.event.Access.{Access}
use Rattle.adapter.specs.BusMembers.{KeepsProperties}
use Rattle.drive.specs.QtestState.{Asks, AsksAll, IsSameBus, QtestState, is_never, memory_size}
use Rattle.drive.specs.QtestRequests.{request_of, requests_of}

-- `IsSameBus` holds of no access.
pub same_bus_here : (a : QtestState) → IsSameBus a a
same_bus_here a = record { registers = refl; memory = refl; fault_stays = λ none. none }

-- If `IsSameBus` holds of two consecutive intervals, it holds of both joined.
pub same_bus_on : (a b c : QtestState) → IsSameBus a b → IsSameBus b c → IsSameBus a c
same_bus_on a b c one two = record {
  registers = two.registers ∙ one.registers;
  memory = two.memory ∙ one.memory;
  fault_stays = λ none. one.fault_stays (two.fault_stays none);
}

-- `AsksAll` holds of no access, with the empty list.
pub asks_here : (a : QtestState) → AsksAll a a
asks_here a = record { same = same_bus_here a; accesses = []; asked = λ none. Appends-nil a.written }

-- If `AsksAll` holds of two consecutive intervals, it holds of both joined, with their lists joined.
pub asks_on : (a b c : QtestState) → AsksAll a b → AsksAll b c → AsksAll a c
asks_on a b c one two = record {
  same = same_bus_on a b c one.same two.same;
  accesses = one.accesses ++ two.accesses;
  asked = λ none. subst (Appends a.written c.written) (sym (flat_map-append (request_of a.registers) one.accesses two.accesses))
      (Appends-trans a.written b.written c.written (requests_of a.registers one.accesses) (requests_of a.registers two.accesses)
      (one.asked (two.same.fault_stays none))
      (subst (λ (r : ℕ). Appends b.written c.written (requests_of r two.accesses)) one.same.registers (two.asked none)));
}

-- After one access, `AsksAll` holds with the list of this access.
pub asks_one : (access : Access) (a b : QtestState) → Asks access a b → AsksAll a b
asks_one access a b one = record {
  same = one.same;
  accesses = access ∷ [];
  asked = λ none. subst (Appends a.written b.written) (sym (append-nil (request_of a.registers access))) (one.asked none);
}

-- One access preserves the properties of the bus that `KeepsProperties` states.
pub keeps_one : (access : Access) (a b : QtestState) → Asks access a b → KeepsProperties memory_size AsksAll is_never is_never a b
keeps_one access a b one = record { extent = one.same.memory; lent_stays = asks_one access a b one; honest = λ is. is; lively = λ is. is }
