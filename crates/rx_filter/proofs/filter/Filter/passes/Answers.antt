use Rattle.std.proofs.Common.{ℕ, List, subst}
use Rattle.rx_filter.specs.Passing.{AcceptsAddress}
use Rattle.rx_filter.specs.Registers.{filter_of}
use Rattle.rx_filter.proofs.filter.Filter.passes.Goals as goal

pub returns-then-accepts_address : goal.returns-then-accepts_address
returns-then-accepts_address c =
    let accepted = c.accepts_address.ensures.0 c.if-accepts_address.true in
    let of_frame = subst (λ (address : List ℕ). AcceptsAddress (filter_of c.args.self.now) address) c.destination_of.ensures accepted in (
      (λ vlan. record { address = of_frame; vlan = c.accepts_vlan.ensures.0 vlan }),
      (λ passes. c.accepts_vlan.ensures.1 passes.vlan),
    )
