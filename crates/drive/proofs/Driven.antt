-- A complete drive: the initialization, the sending of frames and the waiting for frames, and the trace that was written.
use Rattle.std.proofs.Common.{◌≡◌, ◌++◌, [], ℕ, true, List, Option, Result, Ok, Err, refl, ap, subst, ◌∙◌}
use Rattle.std.specs.Prelude.{IfOk}
use Rattle.std.specs.Io.KnownBytes.{Appends, append_known}
use Rattle.std.proofs.KnownBytes.{Appends-trans}
use Rattle.std.proofs.lemmas.List.{append-nil}
use Rattle.adapter.specs.BusMembers.{Composes}
use Rattle.adapter.specs.Keeping.{Keeps}
use Rattle.adapter.specs.bus_types.bus.Bus.{Ghosts}
use Rattle.packet_socket.specs.HostCalls.{HostReady, IsReadyHost, host_at}
use Rattle.packet_socket.specs.HostState.{HostState}
use Rattle.pcap_trace.specs.Format.{file_header, written}
use Rattle.pcap_trace.specs.declared.unit.Unit.TheVariants.{Micros}
use Rattle.pcap_trace.proofs.Flushed.{flushed, header_waits}
use Rattle.drive.specs.Drives.{Drives, layout_counts}
use Rattle.drive.specs.Exchanging.{ExchangeMoment, Exchanges, SendsFront, exchange_at}
use Rattle.drive.specs.Numbering.{timed_by_number, packets_of}
use Rattle.drive.specs.declared.counts.DriveCounts.{DriveCounts}
use Rattle.drive.specs.declared.counts.DriveRings.{DriveRings}
use Rattle.drive.proofs.Numbers.{number_after-count}
use Rattle.drive.proofs.SentFrames.{sends-then}

-- The bytes that wait at the end of an interval are written.
exchanges-written : {B : Type 0} {bus : Ghosts B} {accepted : List (List ℕ)} {start : ExchangeMoment B} {end : B} {host : HostState}
    (taken after : Option (List ℕ)) (waiting : List ℕ) {number : ℕ}
    → Exchanges bus accepted start (exchange_at end host (append_known taken waiting) number) → Appends taken after waiting
    → Exchanges bus accepted start (exchange_at end host after number)
exchanges-written {start = start} taken after waiting it flush = record {
  keeps = it.keeps;
  layout = it.layout;
  received = it.received;
  written = flushed start.text taken after waiting (packets_of start.number it.received) it.written flush;
  count = it.count;
  flows = it.flows;
}

-- Frames are sent, then no frame is sent, and then the bytes that wait are written.
pub sends-written : {B : Type 0} (bus : Ghosts B) → Composes bus.happened bus.lent_stays → (frames : List (List ℕ)) (sent illegal : ℕ)
    (start mid : ExchangeMoment B) (end : B) (host : HostState) (taken after : Option (List ℕ)) (waiting : List ℕ) (number : ℕ)
    → SendsFront bus frames sent illegal start mid → Exchanges bus [] mid (exchange_at end host (append_known taken waiting) number)
    → Appends taken after waiting → SendsFront bus frames sent illegal start (exchange_at end host after number)
sends-written bus composes frames sent illegal start mid end host taken after waiting number sends waits flush =
    let done = exchange_at end host (append_known taken waiting) number in
    let all = sends-then bus composes frames sends.0 sent illegal start mid done sends.1 waits in (
      sends.0,
      record {
        handed = all.handed;
        parts = all.parts;
        sent_is = all.sent_is;
        illegal_is = all.illegal_is;
        exchanges = exchanges-written taken after waiting all.exchanges flush;
      },
    )

-- The header waits first, and then the packets are written.
trace-of : (before after : Option (List ℕ)) (header : List ℕ) (received : List (List ℕ)) → header ≡ file_header Micros
    → Appends (append_known before header) after (packets_of 0 received)
    → Appends before after (written Micros (timed_by_number 0 received))
trace-of before after header received is packets =
    subst (λ (all : List ℕ). Appends before after all)
    (ap (λ (front : List ℕ). front ++ packets_of 0 received) (append-nil (file_header Micros)))
    (Appends-trans before (append_known before header) after (written Micros []) (packets_of 0 received)
    (header_waits Micros before header is) packets)

drives-of : {B : Type 0} (bus : Ghosts B) → (rings : DriveRings) (frames : List (List ℕ)) (counts : DriveCounts)
    (before after : Option (List ℕ)) (header : List ℕ) (old up end : B) (host last : HostState)
    → Keeps bus old up → (bus.honest old → HostReady host (bus.world up)) → host.driver.layout ≡ layout_counts rings
    → header ≡ file_header Micros
    → SendsFront bus frames counts.sent counts.illegal (exchange_at up host (append_known before header) 0)
    (exchange_at end last after counts.received)
    → Drives bus rings frames counts before after old end
drives-of bus rings frames counts before after header old up end host last keeps ready layout is sends =
    let all = sends.1 in
    let whole = all.exchanges in
    record {
      handed = all.handed;
      left = sends.0;
      parts = all.parts;
      sent_is = all.sent_is;
      illegal_is = all.illegal_is;
      received = whole.received;
      received_is = whole.count ∙ number_after-count whole.received;
      trace = trace-of before after header whole.received is whole.written;
      lawfully = λ honest.
          let first : IsReadyHost bus true (host_at up host) = record { honest = keeps.honest honest; ready = ready honest } in
          record {
            up = host_at up host;
            ready = first;
            layout = layout;
            end = host_at end last;
            end_is = refl;
            flows = whole.flows first;
          };
    }

pub drives : {B : Type 0} {E : Type 0} (bus : Ghosts B) → (rings : DriveRings) (frames : List (List ℕ)) (result : Result DriveCounts E)
    (before after : Option (List ℕ)) (header : List ℕ) (old up end : B) (host last : HostState)
    → Keeps bus old up → (bus.honest old → HostReady host (bus.world up)) → host.driver.layout ≡ layout_counts rings
    → header ≡ file_header Micros
    → IfOk result (λ counts. SendsFront bus frames counts.sent counts.illegal (exchange_at up host (append_known before header) 0)
    (exchange_at end last after counts.received))
    → IfOk result (λ counts. Drives bus rings frames counts before after old end)
drives bus rings frames (Ok counts) before after header old up end host last keeps ready layout is sends =
    drives-of bus rings frames counts before after header old up end host last keeps ready layout is sends
drives bus rings frames (Err error) before after header old up end host last keeps ready layout is sends = tt
