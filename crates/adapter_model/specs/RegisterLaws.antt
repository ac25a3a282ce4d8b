-- Proofs of the laws of accesses, resets and power-on: `PlainReadsBack`, `OthersStayAtWrite`, `OthersStayAtRead`, `TouchedByWrites`,
-- `ResetByTable` and `PowerOnByTable`.
use Rattle.std.proofs.Common.{◌≡◌, ◌≢◌, ◌/◌, ◌%◌, ◌^◌, ◌<◌, ◌==◌, ◌&&◌, ℕ, zero, suc, Bool, true, false, List, ◌∷◌, Option, Some, bit_and}
use Rattle.std.proofs.Common.{replicate, slice_index, refl, sym, ◌∙◌, ap, subst, if◌then◌else◌, arith}
use Rattle.std.proofs.lemmas.Bool.{ne_eqb}
use Rattle.std.proofs.lemmas.List.{get_or-replicate, get_or-set_other, get_or-set_same}
use Rattle.std.proofs.lemmas.Nat.Bits.{bit_at_and, bit_at-lt}
use Rattle.mdic_phy.specs.Phy.{PhyState, link_is_up, new_phy}
use Rattle.registers.specs.Kept.{status_of_link_up}
use Rattle.adapter_model.specs.declared.register.RingRegister.{RingRegister}
use Rattle.adapter_model.specs.declared.register.RingRegister.TheVariants.{BaseLow, BaseHigh, Length, Head, Tail}
use Rattle.adapter_model.specs.declared.register.Register.{Register}
use Rattle.adapter_model.specs.declared.register.Register.TheVariants.{Ctrl, Status, Eerd, Mdic, Vet, Icr, Ics, Ims, Imc, Rctl, Tctl, Pba}
use Rattle.adapter_model.specs.declared.register.Register.TheVariants.{Receive, Transmit, Mpc, Gprc, Gptc, Rnbc, Mta, Ral, Rah, Vfta}
use Rattle.adapter_model.specs.declared.ring.RingRegisters.{RingRegisters}
use Rattle.adapter_model.specs.AccessLaws.{IsReset, OthersStayAtRead, OthersStayAtWrite, PlainReadsBack, PowerOnByTable, ResetByTable, Touches}
use Rattle.adapter_model.specs.AccessLaws.{TouchedByWrites, link_shown, causes_set, mask_cleared}
use Rattle.adapter_model.specs.Registers.{adapter_at_reset, after_reset, answer, by_row, is_reset, with_register, write_of}
use Rattle.adapter_model.specs.Rings.{new_ring, ring_answer, with_ring}
use Rattle.adapter_model.specs.State.{AdapterState, HasRegisters}
use Rattle.adapter_model.specs.Table.{IsInTable, row_of}

-- A write that is no reset has the effect of the register's row (`by_row`).
pub write_of-row : (register : Register) (value : ℕ) (state : AdapterState) → is_reset register value ≡ false
    → write_of register value state ≡ by_row (row_of register).kept register value state
write_of-row register value state none = rw none refl

ring-same : (register : RingRegister) (number : ℕ) (ring : RingRegisters) → ring_answer register (with_ring register number ring) ≡ number
ring-same BaseLow number ring = refl
ring-same BaseHigh number ring = refl
ring-same Length number ring = refl
ring-same Head number ring = refl
ring-same Tail number ring = refl

ring-other : (written other : RingRegister) (number : ℕ) (ring : RingRegisters) → written ≢ other
    → ring_answer other (with_ring written number ring) ≡ ring_answer other ring
ring-other BaseLow BaseLow number ring differ = absurd (differ refl)
ring-other BaseHigh BaseHigh number ring differ = absurd (differ refl)
ring-other Length Length number ring differ = absurd (differ refl)
ring-other Head Head number ring differ = absurd (differ refl)
ring-other Tail Tail number ring differ = absurd (differ refl)
ring-other _ _ number ring differ = refl

ring-new : (register : RingRegister) → ring_answer register new_ring ≡ 0
ring-new BaseLow = refl
ring-new BaseHigh = refl
ring-new Length = refl
ring-new Head = refl
ring-new Tail = refl

-- A register whose row has kept bits reads the number that `with_register` stored.
pub with_register-same : (register : Register) (kept number : ℕ) (state : AdapterState)
    → HasRegisters state → IsInTable register → (row_of register).kept ≡ Some kept
    → answer register (with_register register number state) ≡ number
with_register-same Ctrl kept number state adapter within plain = refl
with_register-same Vet kept number state adapter within plain = refl
with_register-same Rctl kept number state adapter within plain = refl
with_register-same Tctl kept number state adapter within plain = refl
with_register-same (Receive part) kept number state adapter within plain = ring-same part number state.receive_ring
with_register-same (Transmit part) kept number state adapter within plain = ring-same part number state.transmit_ring
with_register-same (Mta word) kept number state adapter within plain =
    get_or-set_same state.filter.mta word number 0 (let size = adapter.tables.mta_words in omega arith)
with_register-same (Ral entry) kept number state adapter within plain =
    get_or-set_same state.filter.ral entry number 0 (let size = adapter.tables.ral_entries in omega arith)
with_register-same (Rah entry) kept number state adapter within plain =
    get_or-set_same state.filter.rah entry number 0 (let size = adapter.tables.rah_entries in omega arith)
with_register-same (Vfta word) kept number state adapter within plain =
    get_or-set_same state.filter.vfta word number 0 (let size = adapter.tables.vfta_words in omega arith)
with_register-same _ kept number state adapter within plain = cc

pub plain_reads_back : PlainReadsBack
plain_reads_back register kept value state adapter within plain none =
    ap (answer register) (write_of-row register value state none)
    ∙ ap (λ (row : Option ℕ). answer register (by_row row register value state)) plain
    ∙ with_register-same register kept (bit_and value kept) state adapter within plain

ctrl-others : (other : Register) (number : ℕ) (state : AdapterState) → Ctrl ≢ other → ¬ (Touches Ctrl other)
    → answer other (record state { device_control = number }) ≡ answer other state
ctrl-others Ctrl number state differ apart = absurd (differ refl)
ctrl-others Status number state differ apart = absurd (apart link_shown)
ctrl-others _ number state differ apart = refl

others-by_row : (written other : Register) (value : ℕ) (state : AdapterState) → written ≢ other → ¬ (Touches written other)
    → answer other (by_row (row_of written).kept written value state) ≡ answer other state
others-by_row Ctrl other value state differ apart = ctrl-others other _ state differ apart
others-by_row (Receive part) (Receive other) value state differ apart = ring-other part other _ state.receive_ring
    (λ same. differ (ap Receive same))
others-by_row (Transmit part) (Transmit other) value state differ apart = ring-other part other _ state.transmit_ring
    (λ same. differ (ap Transmit same))
others-by_row (Mta word) (Mta other) value state differ apart = get_or-set_other state.filter.mta word other _ 0
    (λ same. differ (ap Mta (sym same)))
others-by_row (Ral entry) (Ral other) value state differ apart = get_or-set_other state.filter.ral entry other _ 0
    (λ same. differ (ap Ral (sym same)))
others-by_row (Rah entry) (Rah other) value state differ apart = get_or-set_other state.filter.rah entry other _ 0
    (λ same. differ (ap Rah (sym same)))
others-by_row (Vfta word) (Vfta other) value state differ apart = get_or-set_other state.filter.vfta word other _ 0
    (λ same. differ (ap Vfta (sym same)))
others-by_row Eerd Eerd value state differ apart = absurd (differ refl)
others-by_row Mdic Mdic value state differ apart = absurd (differ refl)
others-by_row Vet Vet value state differ apart = absurd (differ refl)
others-by_row Icr Icr value state differ apart = absurd (differ refl)
others-by_row Ics Icr value state differ apart = absurd (apart causes_set)
others-by_row Ims Ims value state differ apart = absurd (differ refl)
others-by_row Imc Ims value state differ apart = absurd (apart mask_cleared)
others-by_row Rctl Rctl value state differ apart = absurd (differ refl)
others-by_row Tctl Tctl value state differ apart = absurd (differ refl)
others-by_row Pba Pba value state differ apart = absurd (differ refl)
others-by_row _ _ value state differ apart = refl

pub others_stay_at_write : OthersStayAtWrite
others_stay_at_write written other value state differ apart none =
    ap (answer other) (write_of-row written value state none) ∙ others-by_row written other value state differ apart

pub others_stay_at_read : OthersStayAtRead
others_stay_at_read Icr Icr state differ = absurd (differ refl)
others_stay_at_read Mpc Mpc state differ = absurd (differ refl)
others_stay_at_read Gprc Gprc state differ = absurd (differ refl)
others_stay_at_read Gptc Gptc state differ = absurd (differ refl)
others_stay_at_read Rnbc Rnbc state differ = absurd (differ refl)
others_stay_at_read _ _ state differ = refl

slu-kept : (value : ℕ) → bit_and value 0x40000061 / 2 ^ 6 % 2 ≡ value / 2 ^ 6 % 2
slu-kept value =
    let both = bit_at_and value 0x40000061 6 in
    let bit = bit_at-lt value 6 in
    omega arith

pub touched_by_writes : TouchedByWrites
touched_by_writes value state = record {
  link_shown = λ none.
      ap (answer Status) (write_of-row Ctrl value state none)
      ∙ ap (λ (bit : ℕ). if link_is_up state.phy && bit == 1 then status_of_link_up else 0) (slu-kept value);
  causes_set = refl;
  mask_cleared = refl;
}

entry-at_reset : (first entry : ℕ) → entry < 16 → slice_index (first ∷ replicate 15 0) entry ≡ (if entry == 0 then first else 0)
entry-at_reset first zero within = refl
entry-at_reset first (suc entry) within =
    let other : (suc entry == 0) ≡ false = ne_eqb (suc entry) 0 (λ same. omega arith) in
    get_or-replicate 15 entry 0 0 (omega arith) ∙ ap (λ (test : Bool). if test then first else 0) (sym other)

no_link : (up : Bool) → (if up && false then status_of_link_up else 0) ≡ 0
no_link true = refl
no_link false = refl

-- After a reset, each register except PBA reads its reset value from the table.
pub answer-at_reset : (register : Register) (words : List ℕ) (phy : PhyState) (kilobytes : ℕ) → IsInTable register → register ≢ Pba
    → answer register (adapter_at_reset words phy kilobytes) ≡ (row_of register).reset words
answer-at_reset Status words phy kilobytes within differ = no_link (link_is_up phy)
answer-at_reset Pba words phy kilobytes within differ = absurd (differ refl)
answer-at_reset (Receive part) words phy kilobytes within differ = ring-new part
answer-at_reset (Transmit part) words phy kilobytes within differ = ring-new part
answer-at_reset (Mta word) words phy kilobytes within differ = get_or-replicate 128 word 0 0 within
answer-at_reset (Ral entry) words phy kilobytes within differ = entry-at_reset _ entry within
answer-at_reset (Rah entry) words phy kilobytes within differ = entry-at_reset _ entry within
answer-at_reset (Vfta word) words phy kilobytes within differ = get_or-replicate 128 word 0 0 within
answer-at_reset _ words phy kilobytes within differ = refl

is_reset-after : (before after : AdapterState) → after ≡ after_reset before → IsReset before after
is_reset-after before after same =
    subst (λ (state : AdapterState). IsReset before state) (sym same) (record {
      registers = λ register within differ. answer-at_reset register before.image before.phy before.receive_kilobytes within differ;
      allocation = refl;
      phy = refl;
      image = refl;
    })

pub reset_by_table : ResetByTable
reset_by_table value state resets =
    is_reset-after state (write_of Ctrl value state) (rw resets refl)

pub power_on_by_table : PowerOnByTable
power_on_by_table Pba words link within = refl
power_on_by_table register words link within = answer-at_reset register words (new_phy link) 48 within (λ same. cc)
