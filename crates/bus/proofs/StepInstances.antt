-- Each adapter step and each delivery is one of the events that may happen between two accesses.
use Rattle.adapter_model.specs.declared.step.StepKind.TheVariants.{TxTake, TxPut, RxData, RxDone, EepromTick, PhyTick}
use Rattle.bus.specs.StepsAndArrivals.{ArrivalsHappen, StepsHappen}
use Rattle.bus.proofs.RxDoneSteps.{done_happens}
use Rattle.bus.proofs.RxDataSteps.{data_happens}
use Rattle.bus.proofs.TxPutSteps.{put_happens}
use Rattle.bus.proofs.StepsBesideRings.{arrival_happens, eeprom_tick_happens, phy_tick_happens}
use Rattle.bus.proofs.TxTakeSteps.{take_happens}

pub steps_happen : StepsHappen
steps_happen world TxTake wire_free answer running answers = take_happens world answer answers
steps_happen world TxPut wire_free answer running answers = put_happens world wire_free answer answers
steps_happen world RxData wire_free answer running answers = data_happens world answer running answers
steps_happen world RxDone wire_free answer running answers = done_happens world answer running answers
steps_happen world EepromTick wire_free answer running answers = eeprom_tick_happens world answer running
steps_happen world PhyTick wire_free answer running answers = phy_tick_happens world answer running

pub arrivals_happen : ArrivalsHappen
arrivals_happen world fate frame running is = arrival_happens world fate frame running is
