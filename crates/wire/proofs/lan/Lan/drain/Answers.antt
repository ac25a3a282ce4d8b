use Rattle.std.proofs.Common.{◌≤◌, ◌<◌, ◌+◌, ℕ, length, subst, sym}
use Rattle.host_calls.specs.Networks.{NetworkState, nth_host}
use Rattle.host_calls.proofs.HostsOfNetworks.{host-there}
use Rattle.rx_engine.specs.declared.engine.TheConstants.{MOST_FRAMES}
use Rattle.wire.specs.DrainedNetworks.{NetworkDrains}
use Rattle.wire.proofs.Draining.{absent-drained, can-drain, host-drained}
use Rattle.wire.proofs.lan.Lan.drain.Goals as goal

pub invariant_of-self : goal.invariant_of-self
invariant_of-self g c =
    let k = c.args.host in
    let n = c.self.inside.network in
    let below = subst (λ (count : ℕ). k < count) c.len.ensures c.if-host-len.false in
    (host-drained n c.drain.new.self k c.drain.result (g.S.Outlet.frames c.args.sink.now) (g.S.Outlet.frames c.drain.new.sink)
    c.self.invariant below c.drain.ensures.others c.drain.ensures.drains).stands

pub returns-then-host-len-clause-drains : goal.returns-then-host-len-clause-drains
returns-then-host-len-clause-drains g c =
    let past = subst (λ (n : ℕ). n ≤ c.args.host) c.len.ensures c.if-host-len.true in
    subst (λ (n : NetworkState). length n.hosts ≤ c.args.host
    → NetworkDrains n c.args.host 0 (g.S.Outlet.frames c.args.sink.now) (g.S.Outlet.frames c.args.sink.now) n) c.self.view_is
    (absent-drained c.self.inside.network c.args.host (g.S.Outlet.frames c.args.sink.now) c.self.invariant)
    (subst (λ (n : NetworkState). length n.hosts ≤ c.args.host) c.self.view_is past)

pub drain-requires-clause-stands : goal.drain-requires-clause-stands
drain-requires-clause-stands g c =
    let k = c.args.host in
    let n = c.self.inside.network in
    let below = subst (λ (count : ℕ). k < count) c.len.ensures c.if-host-len.false in
    can-drain (nth_host n k) _ (c.self.invariant.each k (nth_host n k) (host-there n k below))

pub drain-requires-clause-room : goal.drain-requires-clause-room
drain-requires-clause-room g c =
    let k = c.args.host in
    let n = c.self.inside.network in
    let below = subst (λ (count : ℕ). k < count) c.len.ensures c.if-host-len.false in
    subst (λ (now : NetworkState). (nth_host now k).driver.layout.buffers + MOST_FRAMES ≤ g.S.Outlet.room_left c.args.sink.now)
    (sym c.self.view_is)
    (c.requires.room (nth_host c.args.self.now k)
    (host-there c.args.self.now k (subst (λ (now : NetworkState). k < length now.hosts) c.self.view_is below)))

pub returns-clause-drains : goal.returns-clause-drains
returns-clause-drains g c =
    let k = c.args.host in
    let n = c.self.inside.network in
    let below = subst (λ (count : ℕ). k < count) c.len.ensures c.if-host-len.false in
    subst (λ (old : NetworkState). NetworkDrains old k c.drain.result (g.S.Outlet.frames c.args.sink.now)
    (g.S.Outlet.frames c.drain.new.sink) c.drain.new.self) c.self.view_is
    (host-drained n c.drain.new.self k c.drain.result (g.S.Outlet.frames c.args.sink.now) (g.S.Outlet.frames c.drain.new.sink)
    c.self.invariant below c.drain.ensures.others c.drain.ensures.drains)
