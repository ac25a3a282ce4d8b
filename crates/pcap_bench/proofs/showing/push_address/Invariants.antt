use Rattle.std.proofs.Common.{◌≡◌, ◌+◌, ◌*◌, ◌++◌, length, slice_index, take}
use Rattle.std.specs.Prelude.{codes}
use Rattle.std.specs.List.{flat_map}
use Rattle.pcap_bench.specs.Showing.{colon_pair, pair}
use Rattle.pcap_bench.proofs.showing.push_address.Given as goal

abbrev pub invariant-loop-byte : goal.invariant-loop-byte
invariant-loop-byte l = record {
  size : length l.line.items ≡ length l.fn.line.items + 3 + 3 * l.byte-index;
  text : l.line.items ≡ l.fn.line.items ++ codes " " ++ pair (slice_index l.fn.address 0)
      ++ flat_map colon_pair (take l.byte-index l.byte-items);
}
