-- Each access of a driver's calls meets `IsOfDriver`, and only the last access of a call writes a register.
use Rattle.std.proofs.Common.{◌≡◌, ◌<◌, ◌+◌, ◌%◌, ◌++◌, ◌∷◌, [], ℕ, List, length, inl, inr, map, refl, sym, subst}
use Rattle.std.specs.List.{All}
use Rattle.std.proofs.lemmas.List.{append-nil}
use Rattle.std.proofs.lemmas.List.Elements.{All-append, All-cons}
use Rattle.std.proofs.lemmas.Nat.{mod_below}
use Rattle.adapter.specs.model_types.offsets.TheConstants.{ICR, MPC, RDT, TDT}
use Rattle.dma_memory.specs.Layout.{Counts}
use Rattle.descriptors.specs.Ring.{slots_from}
use Rattle.descriptors.specs.RingLaws.{place}
use Rattle.std.specs.List.{concat}
use Rattle.adapter.proofs.Lists.{all-head, all-none, all-tail}
use Rattle.adapter.specs.bus_types.event.Access.{Access}
use Rattle.adapter.specs.bus_types.event.Access.TheVariants.{Loads, Reads, Stores, Writes}
use Rattle.adapter.specs.Calls.{ether_type_load, receive_loads, send_accesses, stores_from, tail_buffer, tail_slot, tail_write}
use Rattle.adapter.specs.Calls.{takes_from, transmit_loads, whole_descriptor}
use Rattle.adapter.specs.DriverState.{DriverState, buffer_at, next_receive, receive_slot, transmit_slot, transmit_tail}
use Rattle.driver.specs.HandlerSteps.{offering_accesses, taking_accesses}
use Rattle.driver.specs.Parts.{part_loads}
use Rattle.driver.specs.SendSteps.{loads_to_free, slots_looked_at}
use Rattle.driver.specs.declared.parts.Part.{Part}
use Rattle.packet_socket.specs.HostCalls.{receive_accesses}
use Rattle.std.specs.Prelude.{⊤}
use Rattle.packet_socket.specs.HostActs.{IsOfDriver, OnlyLastWrites}

-- Loads and stores meet `IsOfDriver`, and write no register

abbrev IsOfMemory : Access → Type 0
IsOfMemory (Reads offset value) = ⊥
IsOfMemory (Writes offset value) = ⊥
IsOfMemory (Loads address size) = ⊤
IsOfMemory (Stores address bytes) = ⊤

own-memory : (own : Counts) (accesses : List Access) → All IsOfMemory accesses → All (IsOfDriver own) accesses
own-memory own [] all = all-none (IsOfDriver own)
own-memory own (Reads offset value ∷ later) all = absurd (all-head IsOfMemory (Reads offset value) later all)
own-memory own (Writes offset value ∷ later) all = absurd (all-head IsOfMemory (Writes offset value) later all)
own-memory own (Loads address size ∷ later) all =
    let rest = own-memory own later (all-tail IsOfMemory (Loads address size) later all) in
    All-cons (IsOfDriver own) (Loads address size) later tt rest
own-memory own (Stores address bytes ∷ later) all =
    let rest = own-memory own later (all-tail IsOfMemory (Stores address bytes) later all) in
    All-cons (IsOfDriver own) (Stores address bytes) later tt rest

after-memory : (accesses later : List Access) → All IsOfMemory accesses → OnlyLastWrites later → OnlyLastWrites (accesses ++ later)
after-memory [] later all last = last
after-memory (Reads offset value ∷ rest) later all last = absurd (all-head IsOfMemory (Reads offset value) rest all)
after-memory (Writes offset value ∷ rest) later all last = absurd (all-head IsOfMemory (Writes offset value) rest all)
after-memory (Loads address size ∷ rest) later all last =
    after-memory rest later (all-tail IsOfMemory (Loads address size) rest all) last
after-memory (Stores address bytes ∷ rest) later all last =
    after-memory rest later (all-tail IsOfMemory (Stores address bytes) rest all) last

memory-last : (accesses : List Access) → All IsOfMemory accesses → OnlyLastWrites accesses
memory-last [] all = tt
memory-last (Reads offset value ∷ later) all = absurd (all-head IsOfMemory (Reads offset value) later all)
memory-last (Writes offset value ∷ later) all = absurd (all-head IsOfMemory (Writes offset value) later all)
memory-last (Loads address size ∷ later) all = memory-last later (all-tail IsOfMemory (Loads address size) later all)
memory-last (Stores address bytes ∷ later) all = memory-last later (all-tail IsOfMemory (Stores address bytes) later all)

slot-loads : (slot_address : ℕ → ℕ) (slots : List ℕ) → All IsOfMemory (map (λ slot. Loads (slot_address slot) 16) slots)
slot-loads slot_address [] = all-none IsOfMemory
slot-loads slot_address (slot ∷ later) = All-cons IsOfMemory (Loads (slot_address slot) 16)
    (map (λ slot. Loads (slot_address slot) 16) later) tt (slot-loads slot_address later)

-- Sending

sent-memory : (d : DriverState) (k : ℕ) → All IsOfMemory (transmit_loads d.layout d.oldest_transmit k)
sent-memory d k = slot-loads (transmit_slot d.layout) (slots_from d.layout.tx d.oldest_transmit k)

all-sent : (own : Counts) (d : DriverState) (frame : List ℕ) → d.layout ≡ own → 0 < own.tx → All (IsOfDriver own) (send_accesses d frame)
all-sent own d frame same some =
    let slot = (transmit_tail d + 1) % d.layout.tx in
    let below : slot < own.tx = subst (λ (c : Counts). (transmit_tail d + 1) % c.tx < own.tx) (sym same)
    (mod_below (transmit_tail d + 1) own.tx some) in
    let tail = Writes TDT slot ∷ [] in
    let descriptor = Stores (tail_slot d) (whole_descriptor (tail_buffer d) (length frame)) in
    All-cons (IsOfDriver own) (Stores (tail_buffer d) frame) (descriptor ∷ tail) tt
    (All-cons (IsOfDriver own) descriptor tail tt
    (All-cons (IsOfDriver own) (Writes TDT slot) [] (inr (refl, below)) (all-none (IsOfDriver own))))

pub sends-of_driver : (own : Counts) (d : DriverState) (left : ℕ) (frame : List ℕ) → d.layout ≡ own → 0 < own.tx
    → All (IsOfDriver own) (loads_to_free d left ++ send_accesses d frame)
sends-of_driver own d left frame same some =
    let k = slots_looked_at d.sending left in
    All-append (IsOfDriver own) (transmit_loads d.layout d.oldest_transmit k) (send_accesses d frame)
    (own-memory own (transmit_loads d.layout d.oldest_transmit k) (sent-memory d k)) (all-sent own d frame same some)

pub sends-last : (d : DriverState) (left : ℕ) (frame : List ℕ) → OnlyLastWrites (loads_to_free d left ++ send_accesses d frame)
sends-last d left frame =
    let k = slots_looked_at d.sending left in
    after-memory (transmit_loads d.layout d.oldest_transmit k) (send_accesses d frame) (sent-memory d k) refl

pub frees-of_driver : (own : Counts) (d : DriverState) (left : ℕ) → All (IsOfDriver own) (loads_to_free d left ++ [])
frees-of_driver own d left =
    let loads = transmit_loads d.layout d.oldest_transmit (slots_looked_at d.sending left) in
    subst (λ (list : List Access). All (IsOfDriver own) list) (sym (append-nil loads))
    (own-memory own loads (sent-memory d (slots_looked_at d.sending left)))

pub frees-last : (d : DriverState) (left : ℕ) → OnlyLastWrites (loads_to_free d left ++ [])
frees-last d left =
    let k = slots_looked_at d.sending left in
    after-memory (transmit_loads d.layout d.oldest_transmit k) [] (sent-memory d k) tt

-- Offering slots

stores-memory : (counts : Counts) (slot : ℕ) (numbers : List ℕ) → All IsOfMemory (stores_from counts slot numbers)
stores-memory counts slot [] = all-none IsOfMemory
stores-memory counts slot (number ∷ later) = All-cons IsOfMemory _ _ tt (stores-memory counts ((slot + 1) % counts.rx) later)

all-tail_write : (own : Counts) (slot : ℕ) (staged : List ℕ) → slot < own.rx → All (IsOfDriver own) (tail_write slot staged)
all-tail_write own slot [] below = all-none (IsOfDriver own)
all-tail_write own slot (number ∷ later) below = All-cons (IsOfDriver own) (Writes RDT slot) [] (inl (refl, below)) (all-none
    (IsOfDriver own))

tail-last : (slot : ℕ) (staged : List ℕ) → OnlyLastWrites (tail_write slot staged)
tail-last slot [] = tt
tail-last slot (number ∷ later) = refl

offers-of_driver : (own counts : Counts) (first : List Access) (slot last : ℕ) (offered staged : List ℕ) → All IsOfMemory first
    → last < own.rx → All (IsOfDriver own) (first ++ (stores_from counts slot offered ++ tail_write last staged))
offers-of_driver own counts first slot last offered staged memory below =
    let stores = stores_from counts slot offered in
    All-append (IsOfDriver own) first (stores ++ tail_write last staged) (own-memory own first memory)
    (All-append (IsOfDriver own) stores (tail_write last staged) (own-memory own stores (stores-memory counts slot offered))
    (all-tail_write own last staged below))

offers-last : (counts : Counts) (first : List Access) (slot last : ℕ) (offered staged : List ℕ) → All IsOfMemory first
    → OnlyLastWrites (first ++ (stores_from counts slot offered ++ tail_write last staged))
offers-last counts first slot last offered staged memory =
    let stores = stores_from counts slot offered in
    after-memory first (stores ++ tail_write last staged) memory
    (after-memory stores (tail_write last staged) (stores-memory counts slot offered) (tail-last last staged))

-- Receiving

parts-memory : (counts : Counts) (parts : List Part) → All IsOfMemory (part_loads counts parts)
parts-memory counts [] = all-none IsOfMemory
parts-memory counts (part ∷ later) = All-cons IsOfMemory (Loads (buffer_at counts part.buffer) part.length) (part_loads counts later) tt
    (parts-memory counts later)

pub receives-of_driver : (own : Counts) (d d' : DriverState) (parts : List Part) (offered : List ℕ) → next_receive d' < own.rx
    → All (IsOfDriver own) (receive_accesses d d' parts offered ++ [])
receives-of_driver own d d' parts offered below =
    subst (λ (list : List Access). All (IsOfDriver own) list) (sym (append-nil (receive_accesses d d' parts offered)))
    (offers-of_driver own d.layout (part_loads d.layout parts) (next_receive d) (next_receive d') offered (d.staged ++ offered)
    (parts-memory d.layout parts) below)

pub receives-last : (d d' : DriverState) (parts : List Part) (offered : List ℕ)
    → OnlyLastWrites (receive_accesses d d' parts offered ++ [])
receives-last d d' parts offered =
    subst OnlyLastWrites (sym (append-nil (receive_accesses d d' parts offered)))
    (offers-last d.layout (part_loads d.layout parts) (next_receive d) (next_receive d') offered (d.staged ++ offered)
    (parts-memory d.layout parts))

-- Handling an interrupt

looks-memory : (counts : Counts) (slot n : ℕ) → All IsOfMemory (receive_loads counts slot n)
looks-memory counts slot n = slot-loads receive_slot (slots_from counts.rx slot n)

type-memory : (counts : Counts) (numbers : List ℕ) → All IsOfMemory (ether_type_load counts numbers)
type-memory counts [] = all-none IsOfMemory
type-memory counts (number ∷ later) = All-cons IsOfMemory (Loads (buffer_at counts number + 12) 2) [] tt (all-none IsOfMemory)

takes-memory : (counts : Counts) (slot : ℕ) (taken : List (List ℕ)) → All IsOfMemory (takes_from counts slot taken)
takes-memory counts slot [] = all-none IsOfMemory
takes-memory counts slot (numbers ∷ later) =
    let rest = takes_from counts (place counts.rx slot (length numbers)) later in
    All-append IsOfMemory (receive_loads counts slot (length numbers)) (ether_type_load counts numbers ++ rest)
    (looks-memory counts slot (length numbers))
    (All-append IsOfMemory (ether_type_load counts numbers) rest (type-memory counts numbers)
    (takes-memory counts (place counts.rx slot (length numbers)) later))

handled-memory : (d : DriverState) (taken : List (List ℕ)) (loads : ℕ)
    → All IsOfMemory (takes_from d.layout d.oldest_receive taken
    ++ receive_loads d.layout (place d.layout.rx d.oldest_receive (length (concat taken))) loads)
handled-memory d taken loads =
    let slot = place d.layout.rx d.oldest_receive (length (concat taken)) in
    All-append IsOfMemory (takes_from d.layout d.oldest_receive taken) (receive_loads d.layout slot loads)
    (takes-memory d.layout d.oldest_receive taken) (looks-memory d.layout slot loads)

pub handles-of_driver : (own : Counts) (d : DriverState) (causes misses : ℕ) (taken : List (List ℕ)) (loads : ℕ) (offered : List ℕ)
    (last : ℕ) → last < own.rx
    → All (IsOfDriver own) (Reads ICR causes ∷ taking_accesses d misses taken loads ++ (offering_accesses d offered last ++ []))
handles-of_driver own d causes misses taken loads offered last below =
    subst (λ (list : List Access). All (IsOfDriver own) (Reads ICR causes ∷ taking_accesses d misses taken loads ++ list))
    (sym (append-nil (offering_accesses d offered last)))
    (All-cons (IsOfDriver own) (Reads ICR causes) (taking_accesses d misses taken loads ++ offering_accesses d offered last) (inl refl)
    (All-cons (IsOfDriver own) (Reads MPC misses) _ (inr refl)
    (offers-of_driver own d.layout _ (next_receive d) last offered (d.staged ++ offered) (handled-memory d taken loads) below)))

pub handles-last : (d : DriverState) (causes misses : ℕ) (taken : List (List ℕ)) (loads : ℕ) (offered : List ℕ) (last : ℕ)
    → OnlyLastWrites (Reads ICR causes ∷ taking_accesses d misses taken loads ++ (offering_accesses d offered last ++ []))
handles-last d causes misses taken loads offered last =
    subst (λ (list : List Access). OnlyLastWrites (taking_accesses d misses taken loads ++ list))
    (sym (append-nil (offering_accesses d offered last)))
    (offers-last d.layout _ (next_receive d) last offered (d.staged ++ offered) (handled-memory d taken loads))

pub causes-of_driver : (own : Counts) (causes : ℕ) → All (IsOfDriver own) (Reads ICR causes ∷ [])
causes-of_driver own causes = All-cons (IsOfDriver own) (Reads ICR causes) [] (inl refl) (all-none (IsOfDriver own))
