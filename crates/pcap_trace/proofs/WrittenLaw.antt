-- The bytes written are a trace of these frames (`WrittenIsTrace`), and of no others (`WrittenIsNoOther`).
use Rattle.std.proofs.Common.{◌≡◌, ◌<◌, ◌^◌, ℕ, List, [], ◌∷◌, ◌++◌, Bool, true, false, length, drop, map, refl, sym, ap, subst, ◌∙◌}
use Rattle.std.proofs.Common.{append-nil, arith}
use Rattle.std.specs.List.{flat_map, AllByRecursion}
use Rattle.std.proofs.lemmas.List.{length-append}
use Rattle.std.proofs.lemmas.List.Concat.{flat_map-cons}
use Rattle.std.proofs.lemmas.Bool.{le-ltb}
use Rattle.byteorder.specs.Endian.{little_number, little_bytes}
use Rattle.byteorder.specs.Numbers.{little_number-reads_back}
use Rattle.pcap_trace.specs.declared.header.Endianness.{Endianness}
use Rattle.pcap_trace.specs.declared.header.Endianness.TheVariants.{Little}
use Rattle.pcap_trace.specs.declared.unit.Unit.{Unit}
use Rattle.pcap_trace.specs.declared.unit.Unit.TheVariants.{Micros, Nanos}
use Rattle.pcap_trace.specs.Format.{number_order, is_magic, Packet, Timed, complete}
use Rattle.pcap_trace.specs.Format.{captured_length, original_length, packet_bytes, IsPacket}
use Rattle.pcap_trace.specs.Format.{is_partial, untruncated_frames, skipped_of, ending_of, IsTraceIn}
use Rattle.pcap_trace.specs.Format.{file_header, packet_header, packet_of, written}
use Rattle.pcap_trace.specs.Format.{timed_frame, IsShort, WrittenIsTrace, WrittenIsNoOther}
use Rattle.pcap_trace.proofs.Orders.{number_first, one_order}
use Rattle.pcap_trace.proofs.Unique.{body_unique}

-- the packet of a written frame
abbrev written_packet : Unit → Timed → Packet
written_packet unit t = record { header = packet_header unit t.time (length t.frame); captured = t.frame }

packets-written : (unit : Unit) (ts : List Timed)
    → flat_map packet_bytes (map (written_packet unit) ts) ≡ flat_map (packet_of unit) ts
packets-written unit [] = refl
packets-written unit (t ∷ ts) = flat_map-cons packet_bytes (written_packet unit t) (map (written_packet unit) ts)
    ∙ ap (λ (x : List ℕ). packet_of unit t ++ x) (packets-written unit ts) ∙ sym (flat_map-cons (packet_of unit) t ts)

captured_length-written : (unit : Unit) (time len : ℕ) → len < 2 ^ 32 → captured_length little_number (packet_header unit time len) ≡ len
unfolding packet_header
captured_length-written unit time len fits = little_number-reads_back 4 len (little_bytes 4 len) fits

original_length-written : (unit : Unit) (time len : ℕ) → len < 2 ^ 32 → original_length little_number (packet_header unit time len) ≡ len
unfolding packet_header
original_length-written unit time len fits = little_number-reads_back 4 len [] fits

packet-whole : (unit : Unit) (t : Timed) → IsShort t → IsPacket little_number (written_packet unit t)
unfolding packet_header
packet-whole unit t short = record
    { header_length = refl; captured_is = sym (captured_length-written unit t.time (length t.frame) (omega arith)); short_enough = short }

packets-whole : (unit : Unit) (ts : List Timed) → AllByRecursion IsShort ts
    → AllByRecursion (IsPacket little_number) (map (written_packet unit) ts)
packets-whole unit [] short = tt
packets-whole unit (t ∷ ts) short = (packet-whole unit t short.0, packets-whole unit ts short.1)

packet-kept : (unit : Unit) (t : Timed) → IsShort t → is_partial little_number (written_packet unit t) ≡ false
packet-kept unit t short =
    let a = captured_length-written unit t.time (length t.frame) (omega arith) in
    let b = original_length-written unit t.time (length t.frame) (omega arith) in
    le-ltb _ _ (omega (arith, a, b))

frames_of-written : (unit : Unit) (ts : List Timed) → AllByRecursion IsShort ts
    → map timed_frame ts ≡ untruncated_frames little_number (map (written_packet unit) ts)
frames_of-written unit [] short = refl
frames_of-written unit (t ∷ ts) short =
    rw (packet-kept unit t short.0) (ap (λ (fs : List (List ℕ)). t.frame ∷ fs) (frames_of-written unit ts short.1))

skipped_of-written : (unit : Unit) (ts : List Timed) → AllByRecursion IsShort ts
    → 0 ≡ skipped_of little_number (map (written_packet unit) ts)
skipped_of-written unit [] short = refl
skipped_of-written unit (t ∷ ts) short = rw (packet-kept unit t short.0) (skipped_of-written unit ts short.1)

magic_is-written : (unit : Unit) → is_magic (little_number 4 (file_header unit)) ≡ true
unfolding file_header
magic_is-written Micros = refl
magic_is-written Nanos = refl

pub found : WrittenIsTrace
unfolding file_header
found unit ts short = (
  Little,
  (
    record {
      long_enough = omega (arith, length-append (file_header unit) (flat_map (packet_of unit) ts));
      magic_is = magic_is-written unit;
      major_is = refl;
      minor_is = refl;
      link_type_is = refl;
    },
    record {
      packets = map (written_packet unit) ts;
      rest = [];
      parts = sym (append-nil (flat_map packet_bytes (map (written_packet unit) ts)) ∙ packets-written unit ts);
      whole = packets-whole unit ts short;
      frames_are = frames_of-written unit ts short;
      skipped_are = skipped_of-written unit ts short;
      ends = refl;
    },
  ),
)

complete_uncut : (cut : Bool) → ending_of cut ≡ complete → cut ≡ false
complete_uncut true e = absurd cc
complete_uncut false e = refl

pub no_other : WrittenIsNoOther
unfolding file_header found
no_other unit ts frames skipped cut short t =
    let is_little : t.0 ≡ Little = one_order (written unit ts) t.0 Little t.1.0.magic_is (found unit ts short).1.0.magic_is in
    let moved : IsTraceIn little_number (written unit ts) frames skipped cut = subst
    (λ (o : Endianness). IsTraceIn (number_order o) (written unit ts) frames skipped cut) is_little t.1 in
    let same = body_unique little_number (number_first Little) (drop 24 (written unit ts)) frames (map timed_frame ts) skipped 0
    (ending_of cut) complete moved.1 (found unit ts short).1.1 in
    (same.0, same.1, complete_uncut cut same.2)
