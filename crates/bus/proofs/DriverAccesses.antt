-- Accesses over a bus, one after the other, as intervals of a driver's run.
use Rattle.std.proofs.Common.{◌≡◌, Bool, ◌++◌, ◌∷◌, [], ℕ, List, refl, sym, ap, subst, ◌∙◌}
use Rattle.std.specs.List.{All}
use Rattle.adapter_model.specs.World.{World, world_after_read, world_after_store, world_after_write}
use Rattle.bus.specs.Keeping.{view_of}
use Rattle.bus.specs.Law.{Acts, Happens}
use Rattle.bus.specs.Link.{HasLink, KeepsLink, LeavesPhy}
use Rattle.bus.specs.Pasts.{Past, joined, nothing}
use Rattle.bus.specs.Settings.{AreSet, settings_after_all, settings_of, writes_in}
use Rattle.bus.proofs.Links.{accesses_keep_link, happenings_keep_link, link_intervals_join}
use Rattle.bus.proofs.Settings.{happenings_leave_settings, happens-off, reads-leave, settings_join, while_off-joins, writes-set}
use Rattle.bus.specs.declared.event.Access.TheVariants.{Loads, Reads, Stores, Writes}
use Rattle.bus.specs.declared.event.Access.{Access}
use Rattle.bus.proofs.Steps.{goes-happens, goes-stays}
use Rattle.bus.proofs.Intervals.{goes_join, joined-nothing}
use Rattle.bus.specs.DriverState.{DriverState}
use Rattle.bus.specs.Calls.{FollowsWrites, GoesTo, Ran, at, call_did, driver_did, driver_in, only, Did, Moment}
use Rattle.bus.specs.ReadyDrivers.{ReadyWith}
use Rattle.bus.specs.declared.bus.Bus.{Ghosts}

pub ran_by-itself : {up : Bool} {B : Type 0} (bus : Ghosts B) → ((b : B) → bus.happened b b nothing)
    → (b : B) (d d' : DriverState) (taken accepted : List (List ℕ))
    → GoesTo up (driver_in d (bus.world b)) (driver_in d' (bus.world b)) (driver_did taken accepted) nothing
    → Ran bus up (call_did [] taken accepted) (at b d) (at b d')
ran_by-itself bus stays b d d' taken accepted goes = record {
  past = nothing;
  reports = stays b;
  only = refl;
  goes = goes;
  follows = record {
    set = refl;
    off = λ off leaves. record { none_stored = refl; none_missed = refl };
    link = λ leaves link. link;
  };
}

pub ran_by-stays : {up : Bool} {B : Type 0} (bus : Ghosts B) → ((b : B) → bus.happened b b nothing)
    → (b : B) (d : DriverState) → ReadyWith up d (bus.world b) → Ran bus up (only []) (at b d) (at b d)
ran_by-stays bus stays b d ready = ran_by-itself bus stays b d d [] [] (goes-stays d (bus.world b) ready)

-- If the effect relates a world before the access to the world `new`, the access sets the settings of `new` (`settings_after_all`). If the
-- access writes neither CTRL nor MDIC, a link that is up remains up.
pub record SetsBy (access : Access) (effect : World → World → Type 0) (new : World) : Type 0 where
  pub settings : (middle : World) → effect middle new
      → settings_of new.adapter ≡ settings_after_all (writes_in (access ∷ [])) (settings_of middle.adapter)
  pub link : (middle : World) → effect middle new → All LeavesPhy (writes_in (access ∷ [])) → HasLink middle → HasLink new

pub write-sets : (offset value : ℕ) (new : World)
    → SetsBy (Writes offset value) (λ before after. after ≡ world_after_write offset value before) new
write-sets offset value new = record {
  settings = λ middle written. ap (λ (w : World). settings_of w.adapter) written ∙ writes-set offset value middle.adapter;
  link = λ middle written leaves link. subst HasLink (sym written) (accesses_keep_link (Writes offset value) middle leaves link);
}

pub store-sets : (address : ℕ) (bytes : List ℕ) (new : World)
    → SetsBy (Stores address bytes) (λ before after. after ≡ world_after_store address bytes before) new
store-sets address bytes new = record {
  settings = λ middle stored. ap (λ (w : World). settings_of w.adapter) stored;
  link = λ middle stored leaves link. subst HasLink (sym stored) (accesses_keep_link (Stores address bytes) middle leaves link);
}

pub load-sets : (address size : ℕ) (shows : World → Type 0) (new : World)
    → SetsBy (Loads address size) (λ before after. shows before × (after ≡ before)) new
load-sets address size shows new = record {
  settings = λ middle loaded. ap (λ (w : World). settings_of w.adapter) loaded.1;
  link = λ middle loaded leaves link. subst HasLink (sym loaded.1) link;
}

pub read-sets : (offset value : ℕ) (shows : World → Type 0) (new : World)
    → SetsBy (Reads offset value) (λ before after. shows before × (after ≡ world_after_read offset before)) new
read-sets offset value shows new = record {
  settings = λ middle read. ap (λ (w : World). settings_of w.adapter) read.1 ∙ reads-leave offset middle.adapter;
  link = λ middle read leaves link. subst HasLink (sym read.1) (accesses_keep_link (Reads offset value) middle leaves link);
}

access-set : {B : Type 0} (bus : Ghosts B) (old new : B) (access : Access) (effect : World → World → Type 0)
    → (acts : Acts (view_of bus) old new access effect) → SetsBy access effect (bus.world new)
    → AreSet (bus.world old) (bus.world new) acts.past
access-set bus old new access effect acts sets =
    sets.settings acts.middle acts.effect_is
    ∙ ap (settings_after_all (writes_in (access ∷ []))) (happenings_leave_settings (bus.world old) acts.middle acts.past acts.before)
    ∙ ap (λ (list : List Access). settings_after_all (writes_in list) (settings_of (bus.world old).adapter)) (sym acts.only)

access-link : {B : Type 0} (bus : Ghosts B) (old new : B) (access : Access) (effect : World → World → Type 0)
    → (acts : Acts (view_of bus) old new access effect) → SetsBy access effect (bus.world new)
    → KeepsLink (bus.world old) (bus.world new) acts.past
access-link bus old new access effect acts sets = λ leaves link.
    sets.link acts.middle acts.effect_is
    (subst (λ (list : List Access). All LeavesPhy (writes_in list)) acts.only leaves)
    (happenings_keep_link (bus.world old) acts.middle acts.past acts.before link)

pub follows-acts : {B : Type 0} (bus : Ghosts B) (old new : B) (access : Access) (effect : World → World → Type 0)
    → (acts : Acts (view_of bus) old new access effect) → SetsBy access effect (bus.world new)
    → FollowsWrites (bus.world old) (bus.world new) acts.past
follows-acts bus old new access effect acts sets = record {
  set = access-set bus old new access effect acts sets;
  off = λ off leaves. happens-off (bus.world old) acts.middle acts.past acts.before off;
  link = access-link bus old new access effect acts sets;
}

-- After the interval, this statement holds.
pub record RanWith {B : Type 0} (bus : Ghosts B) (up : Bool) (did : Did) (old new : Moment B) (Behind : World → Type 0) : Type 0 where
  pub ran : Ran bus up did old new
  pub behind : Behind (bus.world new.bus)

-- An interval with one access, which may set up the transmit side. The statement `Behind` follows from the statement `Before`, which holds
-- before the access, and which no step and no delivery changes.
pub run-with : {first up : Bool} {B : Type 0} (bus : Ghosts B) (old new : B)
    (access : Access) (effect : World → World → Type 0) (d d' : DriverState) (taken accepted : List (List ℕ))
    (Before Behind : World → Type 0)
    → Acts (view_of bus) old new access effect → SetsBy access effect (bus.world new)
    → ReadyWith first d (bus.world old)
    → Before (bus.world old)
    → ((a b : World) (past : Past) → ReadyWith first d a → Happens a b past → Before a → Before b)
    → ((middle : World) → ReadyWith first d middle → Before middle → effect middle (bus.world new)
    → GoesTo up (driver_in d middle) (driver_in d' (bus.world new)) (driver_did taken accepted) nothing × Behind (bus.world new))
    → RanWith bus up (call_did (access ∷ []) taken accepted) (at old d) (at new d') Behind
run-with {first} {up} bus old new access effect d d' taken accepted Before Behind acts sets ready before stays step =
    let one = goes-happens d (bus.world old) acts.middle acts.past ready acts.before in
    let two = step acts.middle one.flows.ready (stays (bus.world old) acts.middle acts.past ready acts.before before) acts.effect_is in
    record {
      ran = record {
        past = acts.past;
        reports = acts.told;
        only = acts.only;
        goes =
            subst (GoesTo up (driver_in d (bus.world old)) (driver_in d' (bus.world new)) (driver_did taken accepted))
            (joined-nothing acts.past)
            (goes_join d d d' (bus.world old) acts.middle (bus.world new) [] taken [] accepted acts.past nothing one two.0);
        follows = follows-acts bus old new access effect acts sets;
      };
      behind = two.1;
    }

-- Let an access be an interval from each world in which the driver is ready. Then the access is also an interval together with what happens
-- before it.
pub ran_by-acts : {up : Bool} {B : Type 0} (bus : Ghosts B) (old new : B) (access : Access) (effect : World → World → Type 0)
    (d d' : DriverState) (taken accepted : List (List ℕ)) → Acts (view_of bus) old new access effect
    → SetsBy access effect (bus.world new)
    → ReadyWith up d (bus.world old)
    → ((middle : World) → ReadyWith up d middle → effect middle (bus.world new)
    → GoesTo up (driver_in d middle) (driver_in d' (bus.world new)) (driver_did taken accepted) nothing)
    → Ran bus up (call_did (access ∷ []) taken accepted) (at old d) (at new d')
ran_by-acts bus old new access effect d d' taken accepted acts sets ready step =
    (run-with bus old new access effect d d' taken accepted (λ world. Unit {0}) (λ world. Unit {0}) acts sets ready tt
    (λ a b past set happens u. tt) (λ middle set u does. (step middle set does, tt))).ran

pub follows-join : (a b c : World) (first later : Past) → FollowsWrites a b first → FollowsWrites b c later
    → FollowsWrites a c (joined first later)
follows-join a b c first later one two = record {
  set = settings_join a b c first later one.set two.set;
  off = while_off-joins a b first later one.set one.off two.off;
  link = link_intervals_join a b c first later one.link two.link;
}

unfoldable pub ran_by-join : {first_up up : Bool} {B : Type 0} (bus : Ghosts B)
    → ((a b c : B) (first later : Past) → bus.happened a b first → bus.happened b c later → bus.happened a c (joined first later))
    → (xs ys : List Access) (a b c : B) (d1 d2 d3 : DriverState) (t1 t2 g1 g2 : List (List ℕ))
    → Ran bus first_up (call_did xs t1 g1) (at a d1) (at b d2) → Ran bus up (call_did ys t2 g2) (at b d2) (at c d3)
    → Ran bus up (call_did (xs ++ ys) (t1 ++ t2) (g1 ++ g2)) (at a d1) (at c d3)
ran_by-join bus joins xs ys a b c d1 d2 d3 t1 t2 g1 g2 one two = record {
  past = joined one.past two.past;
  reports = joins a b c one.past two.past one.reports two.reports;
  only = ap (λ (list : List Access). list ++ two.past.accesses) one.only ∙ ap (λ (list : List Access). xs ++ list) two.only;
  goes = goes_join d1 d2 d3 (bus.world a) (bus.world b) (bus.world c) t1 t2 g1 g2 one.past two.past one.goes two.goes;
  follows = follows-join (bus.world a) (bus.world b) (bus.world c) one.past two.past one.follows two.follows;
}

pub ran_by-same : {up : Bool} {B : Type 0} (bus : Ghosts B) (xs ys : List Access) (old new : B) (d d1 d2 : DriverState)
    (t1 t2 accepted : List (List ℕ))
    → xs ≡ ys → d1 ≡ d2 → t1 ≡ t2 → Ran bus up (call_did xs t1 accepted) (at old d) (at new d1)
    → Ran bus up (call_did ys t2 accepted) (at old d) (at new d2)
ran_by-same {up} bus xs ys old new d d1 d2 t1 t2 accepted accesses last taken ran =
    subst (λ (list : List Access). Ran bus up (call_did list t2 accepted) (at old d) (at new d2)) accesses
    (subst (λ (end : DriverState). Ran bus up (call_did xs t2 accepted) (at old d) (at new end)) last
    (subst (λ (frames : List (List ℕ)). Ran bus up (call_did xs frames accepted) (at old d) (at new d1)) taken ran))
