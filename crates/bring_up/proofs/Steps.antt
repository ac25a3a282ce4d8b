-- Calls of initialization over a bus: the accesses that they consist of, and how consecutive calls join.
use Rattle.std.proofs.Common.{◌≡◌, ◌++◌, ◌∷◌, [], ℕ, List, Option, refl, sym, ap, subst, ◌∙◌}
use Rattle.std.specs.List.{All}
use Rattle.std.proofs.lemmas.List.{map-append}
use Rattle.std.proofs.lemmas.List.Elements.{All-append}
use Rattle.adapter.specs.Registers.{left_by_write, write_of}
use Rattle.adapter.specs.Table.{IsInTable, row_of}
use Rattle.adapter.specs.TableLaws.{register_at-there}
use Rattle.adapter.specs.World.{World, world_after_read, world_after_write}
use Rattle.adapter.specs.model_types.register.Register.{Register}
use Rattle.adapter.specs.Keeping.{view_of}
use Rattle.adapter.specs.Law.{Acts}
use Rattle.adapter.specs.Link.{HasLink, LeavesPhy}
use Rattle.adapter.specs.Pasts.{Past, joined, nothing}
use Rattle.adapter.specs.bus_types.bus.Bus.{Ghosts}
use Rattle.adapter.specs.bus_types.event.Access.{Access}
use Rattle.adapter.specs.bus_types.event.Access.TheVariants.{Reads, Writes}
use Rattle.adapter.specs.AdaptersAtRest.{IsAtRest, NoFrame}
use Rattle.adapter.specs.Settings.{Write, settings_after_all, settings_of, writes_in}
use Rattle.adapter.proofs.Links.{accesses_keep_link, happenings_keep_link}
use Rattle.adapter.proofs.Lists.{all-head, all-left, all-none, all-right}
use Rattle.adapter.proofs.AdaptersAtRest.{accesses_keep_rest, happenings_keep_rest}
use Rattle.adapter.proofs.Settings.{happenings_leave_settings, reads-leave, settings-append, writes-append, writes-set}
use Rattle.adapter.proofs.Resets.{rest_keeps_memory}
use Rattle.bring_up.specs.DriverSteps.{accesses_of}
use Rattle.bring_up.specs.RingRegisters.{WritesRing, ring_setup_writes}
use Rattle.bring_up.specs.SettingSteps.{WriteActs, WritesOneRegister, IsAside, Sets, SetsOnly}

-- What happens in two consecutive intervals happens in both together: a law of the bus.
abbrev pub IntervalsJoin : {B : Type 0} → Ghosts B → Type 0
IntervalsJoin {B} bus =
    (a b c : B) (first later : Past) → bus.happened a b first → bus.happened b c later → bus.happened a c (joined first later)

unfoldable pub sets-nothing : {B : Type 0} (bus : Ghosts B) → ((b : B) → bus.happened b b nothing) → (b : B) → Sets bus [] b b
sets-nothing bus stays b = record {
  past = nothing;
  reports = stays b;
  writes_are = refl;
  settings = refl;
  rests = λ aside rest. (rest, record { none_put = refl; none_stored = refl; none_missed = refl });
  memory = λ aside rest. refl;
  link = λ leaves link. link;
}

pub no-frames : (first later : Past) → NoFrame first → NoFrame later → NoFrame (joined first later)
no-frames first later one two = record {
  none_put = rw (one.none_put, two.none_put) refl;
  none_stored = rw (one.none_stored, two.none_stored) refl;
  none_missed = rw (one.none_missed, two.none_missed) refl;
}

unfoldable pub sets-join : {B : Type 0} (bus : Ghosts B) → IntervalsJoin bus
    → (a b c : B) (first later : List Write) → Sets bus first a b → Sets bus later b c
    → Sets bus (first ++ later) a c
sets-join bus joins a b c first later one two = record {
  past = joined one.past two.past;
  reports = joins a b c one.past two.past one.reports two.reports;
  writes_are = writes-append one.past.accesses two.past.accesses ∙ rw (one.writes_are, two.writes_are) refl;
  settings =
      two.settings ∙ ap (settings_after_all later) one.settings ∙ sym (settings-append first later (settings_of (bus.world a).adapter));
  rests = λ aside rest.
      let middle = one.rests (all-left IsAside first later aside) rest in
      let end = two.rests (all-right IsAside first later aside) middle.0 in
      (end.0, no-frames one.past two.past middle.1 end.1);
  memory = λ aside rest.
      two.memory (all-right IsAside first later aside) (one.rests (all-left IsAside first later aside) rest).0
      ∙ one.memory (all-left IsAside first later aside) rest;
  link = λ leaves link. two.link (all-right LeavesPhy first later leaves) (one.link (all-left LeavesPhy first later leaves) link);
}

-- One access is a call that makes the writes `writes`, whatever happens before the access.
unfoldable pub sets-access : {B : Type 0} (bus : Ghosts B) (old new : B) (access : Access)
    (effect : World → World → Type 0) (writes : List Write)
    → (acts : Acts (view_of bus) old new access effect) → writes_in (access ∷ []) ≡ writes
    → settings_of (bus.world new).adapter ≡ settings_after_all writes (settings_of acts.middle.adapter)
    → (All IsAside writes → IsAtRest acts.middle → IsAtRest (bus.world new))
    → (All LeavesPhy writes → HasLink acts.middle → HasLink (bus.world new))
    → (bus.world new).memory ≡ acts.middle.memory → Sets bus writes old new
sets-access bus old new access effect writes acts are set rests link memory = record {
  past = acts.past;
  reports = acts.told;
  writes_are = ap writes_in acts.only ∙ are;
  settings = set ∙ ap (settings_after_all writes) (happenings_leave_settings (bus.world old) acts.middle acts.past acts.before);
  rests = λ aside rest.
      let waits = happenings_keep_rest (bus.world old) acts.middle acts.past acts.before acts.adapter rest in
      (rests aside waits.0, waits.1);
  memory = λ aside rest. memory ∙ rest_keeps_memory (bus.world old) acts.middle acts.past acts.before rest;
  link = λ leaves up. link leaves (happenings_keep_link (bus.world old) acts.middle acts.past acts.before up);
}

unfoldable pub sets-read : {B : Type 0} (bus : Ghosts B) (old new : B) (offset value : ℕ) (answer : World → Type 0)
    → Acts (view_of bus) old new (Reads offset value)
    (λ before after. answer before × (after ≡ world_after_read offset before))
    → Sets bus [] old new
sets-read bus old new offset value answer acts =
    sets-access bus old new (Reads offset value) _ [] acts refl
    (ap (λ (w : World). settings_of w.adapter) acts.effect_is.1 ∙ reads-leave offset acts.middle.adapter)
    (λ aside rest. subst IsAtRest (sym acts.effect_is.1) (accesses_keep_rest (Reads offset value) acts.middle tt refl rest))
    (λ leaves link. subst HasLink (sym acts.effect_is.1) (accesses_keep_link (Reads offset value) acts.middle leaves link))
    (ap (λ (w : World). w.memory) acts.effect_is.1)

unfoldable pub sets-write : {B : Type 0} (bus : Ghosts B) (old new : B) (offset value : ℕ)
    → Acts (view_of bus) old new (Writes offset value) (λ before after. after ≡ world_after_write offset value before)
    → Sets bus (record { offset = offset; value = value } ∷ []) old new
sets-write bus old new offset value acts =
    let write : Write = record { offset = offset; value = value } in
    sets-access bus old new (Writes offset value) _ (write ∷ []) acts refl
    (ap (λ (w : World). settings_of w.adapter) acts.effect_is ∙ writes-set offset value acts.middle.adapter)
    (λ aside rest. subst IsAtRest (sym acts.effect_is)
    (accesses_keep_rest (Writes offset value) acts.middle (all-head IsAside write [] aside) refl rest))
    (λ leaves link. subst HasLink (sym acts.effect_is) (accesses_keep_link (Writes offset value) acts.middle leaves link))
    (ap (λ (w : World). w.memory) acts.effect_is)

-- A write of a register of the table
pub register-written : (register : Register) → IsInTable register → (value : ℕ) (world : World)
    → world_after_write (row_of register).offset value world ≡ record world { adapter = write_of register value world.adapter }
register-written register within value world =
    ap (λ (found : Option Register). let after : World = record world { adapter = left_by_write found value world.adapter } in after)
    (register_at-there register within)

-- Calls that make no other access

pub accesses-join : (first later : Past) (xs ys : List Write) → first.accesses ≡ accesses_of xs → later.accesses ≡ accesses_of ys
    → (joined first later).accesses ≡ accesses_of (xs ++ ys)
accesses-join first later xs ys one two =
    ap (λ (list : List Access). list ++ later.accesses) one ∙ ap (λ (list : List Access). accesses_of xs ++ list) two
    ∙ sym (map-append (λ (write : Write). Writes write.offset write.value) xs ys)

pub only-nothing : {B : Type 0} (bus : Ghosts B) → ((b : B) → bus.happened b b nothing) → (b : B) → SetsOnly bus [] b b
unfolding sets-nothing
only-nothing bus stays b = record { sets = sets-nothing bus stays b; only = refl }

pub only-join : {B : Type 0} (bus : Ghosts B) → IntervalsJoin bus
    → (a b c : B) (first later : List Write) → SetsOnly bus first a b → SetsOnly bus later b c
    → SetsOnly bus (first ++ later) a c
unfolding sets-join
only-join bus joins a b c first later one two = record {
  sets = sets-join bus joins a b c first later one.sets two.sets;
  only = accesses-join one.sets.past two.sets.past first later one.only two.only;
}

pub only-write : {B : Type 0} {bus : Ghosts B} {old new : B} {offset place value word : ℕ} → offset ≡ place → value ≡ word
    → WriteActs bus old new offset value → SetsOnly bus (record { offset = place; value = word } ∷ []) old new
unfolding sets-access sets-write
only-write {B} {bus} {old} {new} {offset} {place} {value} {word} at is acts =
    subst (λ (o : ℕ). SetsOnly bus (record { offset = o; value = word } ∷ []) old new) at
    (subst (λ (v : ℕ). SetsOnly bus (record { offset = offset; value = v } ∷ []) old new) is
    (record { sets = sets-write bus old new offset value acts; only = acts.only }))

-- The five writes that set up a ring join.
pub only-ring : {B : Type 0} {bus : Ghosts B} {offset base bytes : ℕ} {old new : B} → IntervalsJoin bus
    → WritesRing bus offset base bytes old new → SetsOnly bus (ring_setup_writes offset base bytes) old new
only-ring {B} {bus} {offset} {base} {bytes} {old} {new} joins w =
    only-join bus joins old w.b1 new (_ ∷ []) _ (only-write refl refl w.base_low)
    (only-join bus joins w.b1 w.b2 new (_ ∷ []) _ (only-write refl refl w.base_high)
    (only-join bus joins w.b2 w.b3 new (_ ∷ []) _ (only-write refl refl w.length)
    (only-join bus joins w.b3 w.b4 new (_ ∷ []) (_ ∷ []) (only-write refl refl w.head) (only-write refl refl w.tail))))

-- Calls that write only one register, which isn't part of the settings

pub asks-nothing : {B : Type 0} (bus : Ghosts B) → ((b : B) → bus.happened b b nothing) → (b : B) (offset : ℕ)
    → WritesOneRegister bus offset b b
asks-nothing bus stays b offset = record {
  past = nothing;
  reports = stays b;
  only = all-none (λ write. write.offset ≡ offset);
  settings = refl;
  rests = λ rest. (rest, record { none_put = refl; none_stored = refl; none_missed = refl });
}

abbrev pub asks-join : {B : Type 0} (bus : Ghosts B) → IntervalsJoin bus
    → (a b c : B) (offset : ℕ) → WritesOneRegister bus offset a b → WritesOneRegister bus offset b c → WritesOneRegister bus offset a c
asks-join bus joins a b c offset one two = record {
  past = joined one.past two.past;
  reports = joins a b c one.past two.past one.reports two.reports;
  only =
      subst (All (λ write. write.offset ≡ offset)) (sym (writes-append one.past.accesses two.past.accesses))
      (All-append (λ write. write.offset ≡ offset) (writes_in one.past.accesses) (writes_in two.past.accesses) one.only two.only);
  settings = two.settings ∙ one.settings;
  rests = λ rest.
      let middle = one.rests rest in
      let end = two.rests middle.0 in
      (end.0, no-frames one.past two.past middle.1 end.1);
}
