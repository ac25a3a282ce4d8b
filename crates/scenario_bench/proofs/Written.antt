-- Traces of sockets and of wires that were written to lists of sinks.
use Rattle.std.proofs.Common.{◌≡◌, [], ℕ, List, Option, None, Some, length, inr, sym, ap, subst, ◌∙◌}
use Rattle.std.proofs.lemmas.List.{length-map}
use Rattle.std.specs.Borrow.{Bor}
use Rattle.std.specs.Prelude.{unwrap_or}
use Rattle.pcap_trace.specs.Format.{Timed}
use Rattle.pcap_trace.specs.declared.unit.Unit.{Unit}
use Rattle.network_plan.specs.declared.plan.HostPlan.{HostPlan}
use Rattle.scenario.specs.SoFar.{hosts_of}
use Rattle.run_record.specs.Kept.{KeptFrame, frames_where, is_of_socket, socket_texts}
use Rattle.run_record.specs.Puts.{frames_on_wire, names_in, wire_texts}
use Rattle.run_record.specs.Traces.{texts_in}
use Rattle.run_record.specs.WrittenTraces.{AreWritten, AreWrittenUpTo, states_of}
use Rattle.run_record.specs.declared.kept.Traces.{Traces}
use Rattle.run_record.proofs.Writing.{none_written, state_of}
use Rattle.scenario_bench.specs.Benches.{AreAllWritten, IsFailedSink, sinks_of}
use Rattle.scenario_bench.specs.Given.{sockets_from}
use Rattle.scenario_bench.specs.PlayedEvents.{AreRecorded}
use Rattle.scenario_bench.specs.WireLists.{wire_names}

module _ {S : Type 0} (taken : S → Option (List ℕ)) (failures : S → ℕ) (unit : Unit) where
  as-states : (texts : List (List Timed)) (old new : List S)
      → AreWritten unit (length old) texts (states_of taken failures old) (states_of taken failures new)
      → AreWritten unit (length (states_of taken failures old)) texts (states_of taken failures old) (states_of taken failures new)
  as-states texts old new wrote =
      subst (λ (count : ℕ). AreWritten unit count texts (states_of taken failures old) (states_of taken failures new))
      (sym (length-map old (state_of taken failures))) wrote

  module _ (texts : List (List Timed)) (of_wires : Traces) (puts : Option (List KeptFrame)) (old new wires_old : List S)
      (wrote : AreWritten unit (length old) texts (states_of taken failures old) (states_of taken failures new)) where
    pub wires_written : (wires_new : List S) (now : List KeptFrame) → puts ≡ Some now
        → AreWritten unit (length wires_old) (texts_in of_wires now) (states_of taken failures wires_old)
        (states_of taken failures wires_new)
        → AreAllWritten unit texts (texts_in of_wires (unwrap_or puts [])) (sinks_of taken failures old new wires_old wires_new)
    wires_written wires_new now is wires_wrote = record {
      texts = as-states texts old new wrote;
      wires = as-states (texts_in of_wires (unwrap_or puts [])) wires_old wires_new
          (subst (λ (found : Option (List KeptFrame)). AreWritten unit (length wires_old) (texts_in of_wires (unwrap_or found []))
          (states_of taken failures wires_old) (states_of taken failures wires_new)) (sym is) wires_wrote);
    }

    pub wire_failed : (wires_new : List S) (now : List KeptFrame) → puts ≡ Some now
        → (failed : ℕ) × AreWrittenUpTo unit failed (texts_in of_wires now) (states_of taken failures wires_old)
        (states_of taken failures wires_new)
        → IsFailedSink unit texts (texts_in of_wires (unwrap_or puts [])) (sinks_of taken failures old new wires_old wires_new)
    wire_failed wires_new now is stopped = inr (
      as-states texts old new wrote,
      (
        stopped.0,
        subst (λ (found : Option (List KeptFrame)). AreWrittenUpTo unit stopped.0 (texts_in of_wires (unwrap_or found []))
            (states_of taken failures wires_old) (states_of taken failures wires_new)) (sym is) stopped.1,
      ),
    )

    pub no_wires : puts ≡ None → AreRecorded (length wires_old) puts
        → AreAllWritten unit texts (texts_in of_wires (unwrap_or puts [])) (sinks_of taken failures old new wires_old wires_old)
    no_wires is recorded =
        let wire_texts = texts_in of_wires (unwrap_or puts []) in
        let states = states_of taken failures wires_old in
        record {
          texts = as-states texts old new wrote;
          wires = as-states wire_texts wires_old wires_old
              (subst (λ (count : ℕ). AreWritten unit count wire_texts states states)
              (sym (subst (AreRecorded (length wires_old)) is recorded)) (none_written unit wire_texts states));
        }

-- The lists of sockets and of wires that `Play::write` makes

pub same_texts : (Holds : List (List Timed) → List (List Timed) → Type 0) {texts others wires other_wires : List (List Timed)}
    → texts ≡ others → wires ≡ other_wires → Holds texts wires → Holds others other_wires
same_texts Holds {texts} {others} {wires} {other_wires} same same_wires holds =
    subst (λ (of_sockets : List (List Timed)). Holds of_sockets other_wires) same (subst (Holds texts) same_wires holds)

module _ (plans hosts : List HostPlan) (same : plans ≡ hosts) where
  module _ (returned : List KeptFrame) (slice sockets : List (ℕ × ℕ)) (is : slice ≡ sockets)
      (are : sockets ≡ sockets_from 0 (hosts_of plans)) where
    places : slice ≡ sockets_from 0 (hosts_of hosts)
    places = is ∙ are ∙ ap (λ (list : List HostPlan). sockets_from 0 (hosts_of list)) same

    pub texts_of_sockets : socket_texts returned slice ≡ socket_texts returned (sockets_from 0 (hosts_of hosts))
    texts_of_sockets = ap (socket_texts returned) places

    pub count_of_sockets : length (sockets_from 0 (hosts_of hosts)) ≡ length (socket_texts returned slice)
    count_of_sockets = sym (length-map slice (λ (place : ℕ × ℕ). frames_where (is_of_socket place.0 place.1) returned) ∙ ap length places)

  module _ (puts : List KeptFrame) (slice names : List (Bor (List ℕ))) (is : slice ≡ names)
      (are : names_in names ≡ wire_names (hosts_of plans)) where
    pub texts_of_wires : wire_texts (hosts_of plans) puts (names_in slice) ≡ wire_texts (hosts_of hosts) puts (wire_names (hosts_of hosts))
    texts_of_wires = ap (wire_texts (hosts_of plans) puts) (ap names_in is ∙ are)
        ∙ ap (λ (list : List HostPlan). wire_texts (hosts_of list) puts (wire_names (hosts_of list))) same

    pub count_of_wires : length (wire_names (hosts_of hosts)) ≡ length (wire_texts (hosts_of plans) puts (names_in slice))
    count_of_wires = sym (ap length texts_of_wires
        ∙ length-map (wire_names (hosts_of hosts)) (λ (wire : List ℕ). frames_on_wire (hosts_of hosts) wire puts))
