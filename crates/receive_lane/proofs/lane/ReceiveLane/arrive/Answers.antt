use Rattle.std.proofs.Common.{◌≡◌, List, ℕ, sym, ap, subst, ◌∙◌}
use Rattle.adapter.specs.model_types.outcome.Outcome.TheVariants.{Moved, Done}
use Rattle.adapter.specs.Receiving.{after_data, after_done, memory_after_data_step, memory_after_done_step}
use Rattle.adapter.specs.State.{AdapterState}
use Rattle.receive_lane.specs.Lane.{LaneState}
use Rattle.receive_lane.proofs.Lanes.{has_room}
use Rattle.receive_lane.proofs.Steps.{after_steps, finishes, is_stored, memory_is, received, Received}
use Rattle.receive_lane.proofs.lane.ReceiveLane.arrive.Goals as goal

pub finish_frame-requires-clause-place : goal.finish_frame-requires-clause-place
finish_frame-requires-clause-place c = (finishes
    (record { adapter = c.self.inside.adapter; memory = c.self.inside.memory; slot = c.self.inside.slot }) c.args.frame.now
    c.arrive.result c.arrive.new.self c.self.invariant (rw (← c.self.view_is) at c.requires.waiting) c.arrive.ensures.state
    c.in-Stored.is c.requires.legal).0

pub finish_frame-requires-clause-last : goal.finish_frame-requires-clause-last
finish_frame-requires-clause-last c = (finishes
    (record { adapter = c.self.inside.adapter; memory = c.self.inside.memory; slot = c.self.inside.slot }) c.args.frame.now
    c.arrive.result c.arrive.new.self c.self.invariant (rw (← c.self.view_is) at c.requires.waiting) c.arrive.ensures.state
    c.in-Stored.is c.requires.legal).1

all : (c : goal.After-finish_frame)
    → Received (record { adapter = c.finish_frame.new.adapter; memory = c.finish_frame.new.memory; slot = c.self.inside.slot })
    c.args.frame.now
all c =
    let lane : LaneState = record { adapter = c.self.inside.adapter; memory = c.self.inside.memory; slot = c.self.inside.slot } in
    let frame = c.args.frame.now in
    let is = c.self.invariant in
    let waiting = rw (← c.self.view_is) at c.requires.waiting in
    let stored = is_stored lane frame c.arrive.result c.arrive.new.self is waiting c.arrive.ensures.state c.in-Stored.is in
    let room = has_room lane.memory frame lane.slot is.slot is.size is.buffers c.requires.legal in
    let adapter : c.finish_frame.new.adapter ≡ (after_steps lane.adapter lane.memory frame lane.slot).adapter =
    c.finish_frame.ensures.adapter ∙ ap (λ (s : AdapterState). after_done Done (after_data Moved s)) stored in
    let memory : c.finish_frame.new.memory ≡ (after_steps lane.adapter lane.memory frame lane.slot).memory =
    c.finish_frame.ensures.memory
    ∙ ap (λ (s : AdapterState). memory_after_done_step (memory_after_data_step Moved lane.memory s) (after_data Moved s)) stored
    ∙ memory_is lane.adapter lane.memory frame lane.slot is.receiving is.slot c.requires.legal room in
    let last = received lane.adapter lane.memory frame lane.slot is.receiving is.slot is.size is.buffers c.requires.legal room in
    subst (λ (s : AdapterState). Received (record { adapter = s; memory = c.finish_frame.new.memory; slot = lane.slot }) frame)
    (sym adapter)
    (subst (λ (m : List ℕ). Received
    (record { adapter = (after_steps lane.adapter lane.memory frame lane.slot).adapter; memory = m; slot = lane.slot }) frame)
    (sym memory) last)

pub invariant_of-self : goal.invariant_of-self
invariant_of-self c = (all c).is_lane

pub returns-in-Stored-clause-finished : goal.returns-in-Stored-clause-finished
returns-in-Stored-clause-finished c stored = (all c).has_frame
