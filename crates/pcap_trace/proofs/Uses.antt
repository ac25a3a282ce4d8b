-- The bytes that a source has left after a read, and after two uses.
use Rattle.std.proofs.Common.{◌≡◌, ◌<◌, ◌^◌, ◌⊎◌, ◌++◌, ◌∙◌, ℕ, List, [], Option, Some, None, ap, inl, inr, refl, subst, sym}
use Rattle.std.proofs.lemmas.List.{append-nil, append_assoc}
use Rattle.std.specs.Io.KnownBytes.{Consumes, Keeps}
use Rattle.pcap_trace.specs.Devices.{Receives, Uses}

none_consumed : (a : Option (List ℕ)) → Consumes a a []
none_consumed None = tt
none_consumed (Some xs) = refl

pub received_none : (held : List ℕ) (a : Option (List ℕ)) → Receives held held a a
received_none held a = ([], sym (append-nil held), none_consumed a)

pub receives_joined : (x y z : List ℕ) (a b c : Option (List ℕ)) → Receives x y a b → Receives y z b c → Receives x z a c
receives_joined x y z None b c one two = (
  one.0 ++ two.0,
  two.1 ∙ ap (λ (t : List ℕ). t ++ two.0) one.1 ∙ append_assoc x one.0 two.0,
  tt,
)
receives_joined x y z (Some old) None c one two = absurd one.2
receives_joined x y z (Some old) (Some mid) None one two = absurd two.2
receives_joined x y z (Some old) (Some mid) (Some new) one two = (
  one.0 ++ two.0,
  two.1 ∙ ap (λ (t : List ℕ). t ++ two.0) one.1 ∙ append_assoc x one.0 two.0,
  one.2 ∙ ap (λ (t : List ℕ). one.0 ++ t) two.2 ∙ sym (append_assoc one.0 two.0 new),
)

pub uses_none : (a : Option (List ℕ)) → Uses a a
uses_none a = record { used = []; consumes = none_consumed a }

pub uses_kept : (a b : Option (List ℕ)) → Keeps a b → Uses a b
uses_kept None b kept = record { used = []; consumes = tt }
uses_kept (Some xs) None kept = absurd kept
uses_kept (Some xs) (Some ys) kept = record { used = []; consumes = sym kept }

pub uses_read : (a b : Option (List ℕ)) (bytes : List ℕ) → Consumes a b bytes → Uses a b
uses_read a b bytes consumes = record { used = bytes; consumes = consumes }

pub uses_received : (old new : List ℕ) (a b : Option (List ℕ)) → Receives old new a b → Uses a b
uses_received old new a b received = record { used = received.0; consumes = received.2 }

pub uses_joined : {a b c : Option (List ℕ)} → Uses a b → Uses b c → Uses a c
uses_joined {a = None} one two = record { used = []; consumes = tt }
uses_joined {a = Some xs} {b = None} one two = absurd one.consumes
uses_joined {a = Some xs} {b = Some ys} {c = None} one two = absurd two.consumes
uses_joined {a = Some xs} {b = Some ys} {c = Some zs} one two = record {
  used = one.used ++ two.used;
  consumes = one.consumes ∙ ap (λ (t : List ℕ). one.used ++ t) two.consumes ∙ sym (append_assoc one.used two.used zs);
}

-- A source whose limit fits into a u64 before a later read had such a limit at first, if nothing happened before this
-- read or if this was known.
pub counted-first : {A B : Type 0} (limit : A → ℕ) {first now : A} {held held' : B}
    → ((held' ≡ held) × (now ≡ first)) ⊎ (limit first < 2 ^ 64) → limit now < 2 ^ 64 → limit first < 2 ^ 64
counted-first limit (inl same) now = subst (λ source. limit source < 2 ^ 64) same.1 now
counted-first limit (inr known) now = known
