use Rattle.std.proofs.Common.{◌+◌, ◌^◌, ℕ, List, Option, sym, ap, ◌∙◌}
use Rattle.adapter.specs.Registers.{after_write}
use Rattle.receive_lane.specs.Choosing.{with_address}
use Rattle.rx_filter.specs.Addresses.{high_word}
use Rattle.rx_filter.specs.declared.address.AddressWords.{AddressWords}
use Rattle.receive_lane.proofs.Writes.{wrote-address, wrote-no_address}
use Rattle.receive_lane.proofs.choosing.write_address.Goals as goal
use Rattle.receive_lane.proofs.choosing.write_address.Goals.{in-Some, in-None}

pub returns-clause-written : goal.returns-clause-written
returns-clause-written c =
    let state = c.args.adapter.now in
    let both = c.write-2.ensures.state ∙ ap (after_write 0x5404 c.match-address.words.high) c.write.ensures.state in
    both ∙ elim c.match-address.branch [
      | in-Some w ↦
          ap (λ (pair : AddressWords). after_write 0x5404 pair.high (after_write 0x5400 pair.low state)) w.words-is
          ∙ ap (λ (high : ℕ). after_write 0x5404 high (after_write 0x5400 w.of-words.result.low state)) w.of-words.ensures.high
          ∙ ap (λ (low : ℕ). after_write 0x5404 (high_word w.in-Some.address + 2 ^ 31) (after_write 0x5400 low state))
          w.of-words.ensures.low
          ∙ wrote-address w.in-Some.address state w.of-words.ensures.address
          ∙ ap (λ (o : Option (List ℕ)). record state { filter = with_address o state.filter }) (sym w.in-Some.is)
      | in-None w ↦
          ap (λ (pair : AddressWords). after_write 0x5404 pair.high (after_write 0x5400 pair.low state)) w.words-is
          ∙ wrote-no_address state
          ∙ ap (λ (o : Option (List ℕ)). record state { filter = with_address o state.filter }) (sym w.in-None.is)
    ]
