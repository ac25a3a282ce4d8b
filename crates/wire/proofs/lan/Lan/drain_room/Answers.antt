use Rattle.std.proofs.Common.{◌≡◌, ◌≤◌, ◌+◌, ℕ, ap, arith, length, refl, subst, sym, ◌∙◌}
use Rattle.dma_memory.specs.Layout.{Counts}
use Rattle.packet_socket.specs.HostState.{HostState}
use Rattle.stations.specs.Stations.{world_at}
use Rattle.host_calls.specs.Networks.{IsHost, NetworkState, host_or_empty, nth_host}
use Rattle.host_calls.specs.DrainedHosts.{count_frames}
use Rattle.rx_engine.specs.declared.engine.TheConstants.{MOST_FRAMES}
use Rattle.host_calls.proofs.Endings.{held-at_most}
use Rattle.wire.specs.Equations.{NetworkStands}
use Rattle.wire.proofs.Draining.{can-drain, no-host}
use Rattle.wire.proofs.lan.Lan.drain_room.Goals as goal

-- the buffers of the host are those of its layout
own-buffers : (inside now : NetworkState) (k : ℕ) (host state : HostState) (layout : Counts) → inside ≡ now → host ≡ nth_host inside k
    → layout ≡ host.driver.layout → IsHost now k state → layout.buffers ≡ state.driver.layout.buffers
own-buffers inside now k host state layout same found counts is =
    let own : host ≡ state = found ∙ ap (λ (n : NetworkState). nth_host n k) same ∙ ap host_or_empty is in
    ap (λ (one : Counts). one.buffers) (counts ∙ ap (λ (one : HostState). one.driver.layout) own)

-- the sum for the buffers and the packet buffer
room-is : (a b buffers counted own : ℕ) → a ≡ buffers → b ≡ MOST_FRAMES → buffers ≡ counted → counted ≡ own → a + b ≡ own + MOST_FRAMES
room-is a b buffers counted own first second is same = omega (arith, first, second, is, same)

pub returns-in_default : goal.returns-in_default
returns-in_default c =
    let now = c.args.self.now in
    let past = subst (λ (n : NetworkState). length n.hosts ≤ c.args.host) c.self.view_is (c.in_default.ensures.none.0 refl) in
    record {
      there = λ state is. no-host now c.args.host state past is;
      enough = λ state is. no-host now c.args.host state past is;
      none = λ absent. refl;
    }

pub overflow_add-result : goal.overflow_add-result
overflow_add-result c = omega (arith, c.buffers.type_inv, c.from.ensures, c.from-2.ensures)

pub returns-clause-there : goal.returns-clause-there
returns-clause-there c = λ state is.
    let buffers = own-buffers c.self.inside.network c.args.self.now c.args.host c.in-Some.host.now state c.layout.result c.self.view_is
    c.in-Some.ensures.some c.layout.ensures is in
    room-is c.from.result c.from-2.result c.buffers.result c.layout.result.buffers state.driver.layout.buffers c.from.ensures
    c.from-2.ensures c.buffers.ensures.count buffers

pub returns-clause-enough : goal.returns-clause-enough
returns-clause-enough c = λ state is.
    let k = c.args.host in
    let stands = subst NetworkStands c.self.view_is c.self.invariant in
    let world = world_at c.args.self.now.stations k in
    let held = held-at_most state world (can-drain state world (stands.each k state is)) (stands.adapters k state is) in
    let buffers = own-buffers c.self.inside.network c.args.self.now k c.in-Some.host.now state c.layout.result c.self.view_is
    c.in-Some.ensures.some c.layout.ensures is in
    let room = room-is c.from.result c.from-2.result c.buffers.result c.layout.result.buffers state.driver.layout.buffers c.from.ensures
    c.from-2.ensures c.buffers.ensures.count buffers in
    subst (λ (room : ℕ). count_frames state world ≤ room) (sym room) held

pub returns-clause-none : goal.returns-clause-none
returns-clause-none c past =
    absurd (cc (c.in-Some.ensures.none.1 (subst (λ (n : NetworkState). length n.hosts ≤ c.args.host) (sym c.self.view_is) past)))
