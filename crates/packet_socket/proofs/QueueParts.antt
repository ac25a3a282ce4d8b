-- The oldest entry of a queue, among all queued entries.
use Rattle.std.proofs.Common.{◌≡◌, ◌<◌, ◌++◌, ◌∷◌, [], ℕ, zero, suc, List, length, refl, sym, ap, ◌∙◌, append_assoc, replicate, arith}
use Rattle.std.specs.List.{slice_set}
use Rattle.driver.specs.declared.receiver.Received.{Received}
use Rattle.packet_socket.specs.HostState.{all_of, queue_at}

-- All queued entries are `first`, then the entry `received`, and then `last`. Without this entry, they are `first` and then `last`.
pub record Splits (queues : List (List Received)) (socket : ℕ) (received : Received) (later : List Received) : Type 0 where
  pub first : List Received
  pub last : List Received
  pub before : all_of queues ≡ first ++ received ∷ last
  pub behind : all_of (slice_set queues socket later) ≡ first ++ last

pub splits : (queues : List (List Received)) (socket : ℕ) (received : Received) (later : List Received) → socket < length queues
    → queue_at queues socket ≡ received ∷ later → Splits queues socket received later
splits [] socket received later below is = absurd (omega (arith, below))
splits (queue ∷ others) zero received later below is = record {
  first = [];
  last = later ++ all_of others;
  before = ap (λ (list : List Received). list ++ all_of others) is;
  behind = refl;
}
splits (queue ∷ others) (suc socket) received later below is =
    let rest = splits others socket received later (omega (arith, below)) is in
    record {
      first = queue ++ rest.first;
      last = rest.last;
      before = ap (λ (list : List Received). queue ++ list) rest.before ∙ sym (append_assoc queue rest.first (received ∷ rest.last));
      behind = ap (λ (list : List Received). queue ++ list) rest.behind ∙ sym (append_assoc queue rest.first rest.last);
    }

pub none-wait : (n : ℕ) → all_of (replicate n []) ≡ []
none-wait zero = refl
none-wait (suc n) = none-wait n
