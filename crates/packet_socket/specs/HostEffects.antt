-- The effects of calls of a host, by their results. Each record is one way in which a call ends. The record states when the call has this
-- result, the host after the call (h'), and the call's stages (`runs`). `Runs` is explained in specs/HostActs. `world` is the adapter and
-- memory before the call. A read of ICR clears the causes (13.4.17 "Interrupt Cause Read Register"); the rest is our choice.
use Rattle.std.specs.Prelude.{⊤, ◌≡◌, ◌≤◌, ◌<◌, ◌+◌, ◌-◌, ◌++◌, ◌∷◌, [], ℕ, Err, List, Ok, Result, length, map, take}
use Rattle.std.specs.List.{Contains, concat}
use Rattle.registers.specs.Bits.{HasBit, Meet}
use Rattle.registers.specs.Places.{rxt0}
use Rattle.descriptors.specs.Frames.{longest_frame, shortest_sent}
use Rattle.rx_filter.specs.Addresses.{IsGroup}
use Rattle.rx_filter.specs.GroupLists.{Removes}
use Rattle.adapter.specs.HostFrames.{frames_to_send}
use Rattle.adapter.specs.Slots.{written_back_slots}
use Rattle.adapter.specs.World.{World}
use Rattle.adapter.specs.model_types.offsets.TheConstants.{ICR}
use Rattle.bring_up.specs.WrittenRegisters.{handled_causes}
use Rattle.bring_up.specs.declared.config.TheConstants.{MOST_GROUPS}
use Rattle.adapter.specs.Pasts.{Past}
use Rattle.adapter.specs.bus_types.event.Access.{Access}
use Rattle.adapter.specs.bus_types.event.Access.TheVariants.{Reads}
use Rattle.adapter.specs.Calls.{HasNoForgottenWork, driver_in, frames_ended, send_accesses}
use Rattle.adapter.specs.DriverState.{HandedOut, next_receive, piece_numbers, with_owners}
use Rattle.bring_up.specs.Groups.{HasTable, SetsTable, with_groups}
use Rattle.bring_up.specs.declared.groups.GroupError.{GroupError}
use Rattle.bring_up.specs.declared.groups.GroupError.TheVariants.{GroupsFull, Joined, NotGroup, NotJoined}
use Rattle.driver.specs.HandlerSteps.{OnlyReceives, ReadsMisses, TakesAndOffers, offering_accesses, taking_accesses}
use Rattle.driver.specs.Growth.{GrowsBy}
use Rattle.driver.specs.Looks.{IsLook}
use Rattle.driver.specs.Parts.{joined_frames}
use Rattle.driver.specs.SendSteps.{SendAnswer, loads_to_free, with_transmit_slots}
use Rattle.driver.specs.declared.transmit.SendError.TheVariants.{RingFull, TooLong, TooShort}
use Rattle.driver.specs.declared.receiver.Received.{Received}
use Rattle.driver.specs.declared.interrupt.Handled.{Handled}
use Rattle.driver.specs.declared.interrupt.Handled.TheVariants.{NotMine}
use Rattle.driver.specs.declared.interrupt.Handled.TheVariants as answers
use Rattle.packet_socket.specs.HostActs.{HandlesInterrupt, HostAct, Effect, Ends, MovesFrames, SetsGroups, Then, no_act}
use Rattle.packet_socket.specs.HostCalls.{AreSorted, Given, LeavesQueue, receive_accesses, waiting_frames, without_socket}
use Rattle.packet_socket.specs.HostState.{HostState, queue_at}
use Rattle.packet_socket.specs.declared.receive.RecvError.{RecvError}
use Rattle.packet_socket.specs.declared.receive.RecvError.TheVariants.{Empty, NoSocket}

-- The host doesn't change, and no access is made.
pub record MakesNoAccess (h h' : HostState) (Runs : HostAct → Type 0) : Type 0 where
  -- the host doesn't change
  pub stays : h' ≡ h
  -- no access is made
  pub runs : Runs no_act

-- Sending

-- Of the transmit slots from the index `oldest` on, no slot is written back, and `left` frames are still to be sent.
pub record AreLeft (oldest left : ℕ) (world : World) : Type 0 where
  -- no outstanding slot is written back
  pub none : written_back_slots oldest world ≡ []
  -- `left` frames are still to be sent
  pub frames : length (frames_to_send world) ≡ left

-- The frame has 14 to 1,518 bytes.
pub record IsSendable (frame : List ℕ) : Type 0 where
  -- at least 14 bytes
  pub least : shortest_sent ≤ length frame
  -- at most 1,518 bytes
  pub most : length frame ≤ longest_frame

-- Ok: the frame is accepted. At least the transmit slots that were written back when the call began are freed, and the
-- frame's slot is outstanding.
pub record AcceptsFrame (frame : List ℕ) (h h' : HostState) (Runs : HostAct → Type 0) (world : World) : Type 0 where
  -- the frame has a valid size
  pub sendable : IsSendable frame
  -- the number of freed slots is at least the number of slots that were written back when the call began
  pub freed : length (written_back_slots h.driver.oldest_transmit world) + h'.driver.sending ≤ h.driver.sending + 1
  -- at least the frame's slot is outstanding
  pub some : 0 < h'.driver.sending
  -- In the host, only the outstanding transmit slots change.
  pub others : h' ≡ record h { driver = with_transmit_slots h.driver h'.driver.oldest_transmit h'.driver.sending }
  -- In the first stage, the call loads the descriptor of each slot that it frees, and of the next outstanding slot if
  -- there is one. When this stage ends, no remaining slot is written back. In the second stage, the call stores and
  -- offers the frame.
  pub runs : Runs (record {
    stages = Then (loads_to_free h.driver (h'.driver.sending - 1))
        (λ old past new. AreLeft h'.driver.oldest_transmit (h'.driver.sending - 1) new)
        (Then (send_accesses h.driver frame) (λ old past new. ⊤) Ends);
    kind = MovesFrames;
    taken = [];
  })

-- RingFull: all transmit slots except one have frames to be sent, when the call begins and when its stage ends. The
-- host doesn't change.
pub record FindsRingFull (frame : List ℕ) (h h' : HostState) (Runs : HostAct → Type 0) (world : World) : Type 0 where
  -- the frame has a valid size
  pub sendable : IsSendable frame
  -- when the call begins, all slots except one have frames to be sent
  pub full : length (frames_to_send world) + 1 ≡ h.driver.layout.tx
  -- after the call, all slots except one are outstanding
  pub still_full : h'.driver.sending + 1 ≡ h.driver.layout.tx
  -- the host doesn't change
  pub stays : h' ≡ h
  -- In its stage, the call loads the descriptor of the oldest slot. When this stage ends, no slot is written back, and all outstanding
  -- slots have frames to be sent.
  pub runs : Runs (record {
    stages = Then (loads_to_free h.driver h'.driver.sending) (λ old past new. AreLeft h'.driver.oldest_transmit h'.driver.sending new) Ends;
    kind = MovesFrames;
    taken = [];
  })

-- the effect of each result of a send
abbrev pub SendEffect : List ℕ → SendAnswer → Effect
SendEffect frame (Ok u) h h' Runs world = AcceptsFrame frame h h' Runs world
SendEffect frame (Err TooShort) h h' Runs world = (length frame < shortest_sent) × MakesNoAccess h h' Runs
SendEffect frame (Err TooLong) h h' Runs world = (longest_frame < length frame) × MakesNoAccess h h' Runs
SendEffect frame (Err RingFull) h h' Runs world = FindsRingFull frame h h' Runs world

-- Receiving

-- the result, with the frame in place of its size: the first `size` of these bytes
abbrev pub frame_answer : List ℕ → Result ℕ RecvError → Result (List ℕ) RecvError
frame_answer bytes (Ok size) = Ok (take size bytes)
frame_answer bytes (Err error) = Err error

-- the frame that the socket returned, if any
abbrev pub given_by : (socket : ℕ) → Result (List ℕ) RecvError → List Given
given_by socket (Ok frame) = record { socket = socket; frame = frame } ∷ []
given_by socket (Err error) = []

-- Ok: the oldest frame of a socket's queue is returned. The call loads the frame, piece by piece, and then offers
-- slots.
pub record ReturnsFrame (socket : ℕ) (frame : List ℕ) (h h' : HostState) (Runs : HostAct → Type 0) (world : World) : Type 0 where
  -- there is such a socket
  pub known : socket < length h.kinds
  -- the oldest entry of the queue
  pub received : Received
  -- this entry has the frame's length, and is removed from the queue
  pub leaves : LeavesQueue h h' socket (length frame) received
  -- In the driver, only the owners of buffers change, and no slot is staged. So its transmit slots and its counts don't change.
  pub others : h' ≡ record h { driver = with_owners h.driver h'.driver.buffers [] h'.driver.pool []; queues = h'.queues }
  -- the buffers of the new slots
  pub offered : List ℕ
  -- The buffers of the outstanding receive slots after the call: those before the call, then those of the staged slots,
  -- then `offered`.
  pub newest : h'.driver.buffers ≡ h.driver.buffers ++ (h.driver.staged ++ offered)
  -- The frame was the first in the queue before the call. The other frames remain in the queue.
  pub runs : Runs (record {
    stages = Then (receive_accesses h.driver h'.driver received.parts offered)
        (λ old past new. waiting_frames h socket world ≡ frame ∷ waiting_frames h' socket new) Ends;
    kind = MovesFrames;
    taken = [];
  })

-- the effect of each result of a recv
abbrev pub RecvEffect : (socket : ℕ) → Result (List ℕ) RecvError → Effect
RecvEffect socket (Ok frame) h h' Runs world = ReturnsFrame socket frame h h' Runs world
RecvEffect socket (Err NoSocket) h h' Runs world = (length h.kinds ≤ socket) × MakesNoAccess h h' Runs
RecvEffect socket (Err Empty) h h' Runs world =
    (socket < length h.kinds) × (queue_at h.queues socket ≡ []) × MakesNoAccess h h' Runs

-- Handling an interrupt

-- After a read of ICR: the value contains each cause that was recorded when the stage began, and no cause is recorded.
pub record ClearsCauses (causes : ℕ) (old : World) (past : Past) (new : World) : Type 0 where
  -- each cause that was recorded is in the value
  pub seen : (place : ℕ) → HasBit old.adapter.causes.recorded place → HasBit causes place
  -- no cause is recorded
  pub cleared : new.adapter.causes.recorded ≡ 0

-- NotMine: the value read from ICR contains no cause that a driver handles. The call makes no other access, and the host doesn't change.
pub record FindsNoCause (h h' : HostState) (Runs : HostAct → Type 0) : Type 0 where
  -- the value read from ICR
  pub causes : ℕ
  -- this value has no cause that the driver handles
  pub none : ¬ Meet causes handled_causes
  -- the host doesn't change
  pub stays : h' ≡ h
  -- there is no other access
  pub runs : Runs (record { stages = Then (Reads ICR causes ∷ []) (ClearsCauses causes) Ends; kind = HandlesInterrupt; taken = [] })

-- Handled: n frames are taken, at least the number of frames that ended in finished slots when the call began
-- (`least`). `taken` contains the pieces of each frame. A frame that has a socket goes to the end of the socket's queue
-- (`frames`). The other frames are counted, up to the greatest u64 (`unclaimed`).
pub record HandlesFrames (n : ℕ) (h h' : HostState) (Runs : HostAct → Type 0) (world : World) : Type 0 where
  -- the value read from ICR
  pub causes : ℕ
  -- this value has a cause that the driver handles
  pub some : Meet causes handled_causes
  -- the value read from MPC, which is added to the driver's sum
  pub missed : ReadsMisses h.driver h'.driver
  -- the pieces of each frame taken
  pub taken : List (List HandedOut)
  -- each frame was queued or counted
  pub frames : AreSorted n h h' taken
  -- the frames without a socket were counted
  pub unclaimed : GrowsBy h.unclaimed h'.unclaimed (without_socket h.kinds (joined_frames taken))
  -- n is at least the number of frames that ended in finished slots when the call began
  pub least : length (frames_ended (driver_in h.driver world)) ≤ n
  -- The buffers of the frames leave the ring, the slots of `rest` remain outstanding, and the staged slots and those
  -- of `offered` are offered. No run was bad. The index of the oldest slot follows from the host being ready after the
  -- call.
  pub served : TakesAndOffers h.driver h'.driver (concat (map piece_numbers taken))
  -- The layout, the outstanding transmit slots, the setup and the joined groups don't change (`OnlyReceives`).
  pub only_receives : OnlyReceives h.driver h'.driver
  -- the number of descriptors that the last look loads
  pub loads : ℕ
  -- In the first stage, ICR is read. In the second stage, MPC is read, frames are taken, and a last look loads descriptors. When this stage
  -- ends, no frame ends in finished slots. In the third stage, slots are offered. When this stage ends, no work is forgotten if RXT0 was in
  -- the mask when the call began.
  pub runs : Runs (record {
    stages = Then (Reads ICR causes ∷ []) (ClearsCauses causes)
        (Then (taking_accesses h.driver missed.misses (map piece_numbers taken) loads)
        (λ old past new. IsLook h'.driver.oldest_receive served.rest new loads)
        (Then (offering_accesses h.driver served.offered (next_receive h'.driver))
        (λ old past new. HasBit world.adapter.causes.mask rxt0 → HasNoForgottenWork h'.driver new) Ends));
    kind = HandlesInterrupt;
    taken = joined_frames taken;
  })

-- the effect of each result of an interrupt handler
abbrev pub InterruptEffect : Handled → Effect
InterruptEffect NotMine h h' Runs world = FindsNoCause h h' Runs
InterruptEffect (answers.Handled n) h h' Runs world = HandlesFrames n h h' Runs world

-- Joining and leaving groups

-- the host whose driver has these joined groups
abbrev pub with_joined : List (List ℕ) → HostState → HostState
with_joined groups h = record h { driver = with_groups groups h.driver }

-- The act of a call that changes the joined groups by these accesses. If MTA has exactly the bits of the old groups when the stage begins,
-- it has exactly those of the new groups at the end.
abbrev pub groups_act : (h h' : HostState) → List Access → HostAct
groups_act h h' accesses = record {
  stages = Then accesses (λ old past new. HasTable h.driver.groups old → HasTable h'.driver.groups new) Ends;
  kind = SetsGroups;
  taken = [];
}

-- Ok of a join: the group is appended to the joined groups, and nothing else of the host changes.
pub record JoinsGroup (group : List ℕ) (h h' : HostState) (Runs : HostAct → Type 0) : Type 0 where
  -- `group` is the address of a group
  pub group_is : IsGroup group
  -- the group isn't joined yet
  pub not_yet : ¬ Contains h.driver.groups group
  -- fewer than 32 groups are joined
  pub room : length h.driver.groups < MOST_GROUPS
  -- the group is appended to the joined groups
  pub joined : h' ≡ with_joined (h.driver.groups ++ group ∷ []) h
  -- the accesses of the call
  pub accesses : List Access
  -- There is no access if a joined group has the same number. Otherwise one word of the group table is written.
  pub sets : SetsTable h.driver.groups group h'.driver.groups accesses
  -- there is no other access
  pub runs : Runs (groups_act h h' accesses)

-- Ok of a leave: the group is no longer joined, and nothing else of the host changes.
pub record LeavesGroup (group : List ℕ) (h h' : HostState) (Runs : HostAct → Type 0) : Type 0 where
  -- `group` is the address of a group
  pub group_is : IsGroup group
  -- the group was joined, and is no longer joined
  pub left : Removes group h.driver.groups h'.driver.groups
  -- nothing else of the host changes
  pub others : h' ≡ with_joined h'.driver.groups h
  -- the accesses of the call
  pub accesses : List Access
  -- There is no access if a group that remains joined has the same number. Otherwise one word of the group table is
  -- written.
  pub sets : SetsTable h'.driver.groups group h'.driver.groups accesses
  -- there is no other access
  pub runs : Runs (groups_act h h' accesses)

-- the result of `join` or `leave`: Ok, or the reason for an error
abbrev pub GroupAnswer : Type 0
GroupAnswer = Result (Unit {0}) GroupError

-- the effect of each result of a join; NotJoined is impossible
abbrev pub JoinEffect : List ℕ → GroupAnswer → Effect
JoinEffect group (Ok u) h h' Runs world = JoinsGroup group h h' Runs
JoinEffect group (Err NotGroup) h h' Runs world = (¬ IsGroup group) × MakesNoAccess h h' Runs
JoinEffect group (Err Joined) h h' Runs world = IsGroup group × Contains h.driver.groups group × MakesNoAccess h h' Runs
JoinEffect group (Err GroupsFull) h h' Runs world =
    IsGroup group × (¬ Contains h.driver.groups group) × (length h.driver.groups ≡ MOST_GROUPS) × MakesNoAccess h h' Runs
JoinEffect group (Err NotJoined) h h' Runs world = ⊥

-- the effect of each result of a leave; Joined and GroupsFull are impossible
abbrev pub LeaveEffect : List ℕ → GroupAnswer → Effect
LeaveEffect group (Ok u) h h' Runs world = LeavesGroup group h h' Runs
LeaveEffect group (Err NotGroup) h h' Runs world = (¬ IsGroup group) × MakesNoAccess h h' Runs
LeaveEffect group (Err NotJoined) h h' Runs world = IsGroup group × (¬ Contains h.driver.groups group) × MakesNoAccess h h' Runs
LeaveEffect group (Err Joined) h h' Runs world = ⊥
LeaveEffect group (Err GroupsFull) h h' Runs world = ⊥
