-- No frame of an EtherType that has a socket goes to a socket for all frames.
use Rattle.std.proofs.Common.{◌≡◌, ◌≢◌, ◌++◌, ◌∷◌, [], ℕ, List, true, sym, ap, ◌∙◌}
use Rattle.std.specs.List.{All}
use Rattle.std.proofs.lemmas.Bool.{false≢true}
use Rattle.std.proofs.lemmas.List.Elements.{filter_passes}
use Rattle.adapter.proofs.Lists.{all-weaker}
use Rattle.driver.specs.declared.receiver.Received.{Received}
use Rattle.packet_socket.specs.HostCalls.{HostServes, claimed_of, socket_entries}
use Rattle.packet_socket.specs.HostState.{HostState, queue_at}
use Rattle.packet_socket.specs.SocketKinds.{goes_to}
use Rattle.packet_socket.specs.declared.socket_kind.SocketKind.{SocketKind}
use Rattle.packet_socket.specs.declared.socket_kind.SocketKind.TheVariants as kinds

pub ether-first : (h h' : HostState) (n : ℕ) → HostServes h h' n → h.kinds ≡ kinds.All ∷ kinds.Ether 0x0806 ∷ []
    → (more : List Received) × ((queue_at h'.queues 0 ≡ queue_at h.queues 0 ++ more) × All (λ received. received.ether_type ≢ 0x0806) more)
ether-first h h' n serves are =
    let shown = claimed_of h.kinds serves.shown in (
      socket_entries h.kinds 0 shown,
      (
        serves.sorted.queues.ends 0,
        all-weaker (λ (one : Received). goes_to h.kinds 0 one.ether_type ≡ true) (λ (one : Received). one.ether_type ≢ 0x0806)
            (socket_entries h.kinds 0 shown)
            (λ one goes is. false≢true (
            ap (λ (table : List SocketKind). goes_to table 0 0x0806) (sym are) ∙ ap (goes_to h.kinds 0) (sym is) ∙ goes
            ))
            (filter_passes (λ (one : Received). goes_to h.kinds 0 one.ether_type) shown),
      ),
    )
