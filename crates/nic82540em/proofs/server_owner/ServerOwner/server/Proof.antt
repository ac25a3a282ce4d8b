-- `server` lends the server in the box of a full owner, and the owner ends with this server.
use mathlib.Core.Path.{◌≡◌, refl, sym, subst}
use Prim.Native.Nat.{ℕ}
use mathlib.Core.Bool.{Bool, true}
use mathlib.Core.List.{List, [], ◌∷◌, ◌++◌}
use seplogic.Ra.Ura.{Ura}
use base.Fraction.{full_share}
use mir.Syntax.{named}
use mir.Val.{Val, vptr}
use base.Logic.{SProp, ent, sep, id⊢}
use base.Fml.{Lft, GName, Share, Fml, ftrue, fsep, flft, fobs, fbor}
use prog.Memory.{Memory}
use prog.Routine.{Routine}
use prog.Wp.{Env, WpFn, Tables}
use types.Logic.{Logic, sem}
use contract.Monad.{Fun}
use contract.Running.{tables, tables_of}
use sound.WpLaws.{WpFn-mono}
use types.Kit.{Item, ⋆, ‵, raw, ◌⊛◌, some, later, await, pick, at_ret, ◌$◌, ◌∵◌}
use types.Kit.{ !, qed, by, move, keep, use1, split, join, group, rewrite, fsplit, fsplit3}
use types.Kit.{fjoin, fpack, feq_l, suffices, frame, done}
use types.Part.{whole, sub, look_in}
use types.Run.{stop, fld, load, of_opd, addr, first, blocks, exec, returns, enter}
use types.ByLocal.{alloc_all, pass_all, free_all, look_at, get, through, sets, sets_last, env}
use types.SemTy.{Body as Borrowed}
use denote.Exit.{no}
use denote.Follow.{follows, Part, lends_Part}
use denote.Memory.{mem, cell_at, part_at, part_of}
use denote.RattleType.{owns}
use denote.RawPtr.{block_ptr}
use denote.Ref.{MutBor, MutRef}
use denote.Signature.{plain, mut_ref_to}
use denote.Steps.{nothing, opens}
use denote.Triple.Entry.{on_entry}
use denote.Triple.Spec.{triple_of}
use denote.Triple.Table.{entered}
use denote.Triple.Walked.{says, needs, Stays, stay_dropped, walk_of, ends_at, Goes-spent_ref, walk_Meets}
use Rattle.core.proofs.alloc.Calls.{token}
use Rattle.std_alloc.proofs.VecSteps.Shapes.{after}
use Rattle.std_alloc.proofs.BoxSteps.Form.{D, R, B, τ, word, handle}
use Rattle.std_alloc.proofs.BoxSteps.Steps.{box_out, box_in}
use mir.Raw.{raw as bare}
use Rattle.nic82540em.proofs.ServerAsBox.{E}
use Rattle.nic82540em.specs.ServerLending.{with_server}
use Rattle.nic82540em.specs.contracts.server_owner.ServerOwner.{the_row as OwnerRow}
use Rattle.nic82540em.specs.contracts.server_owner.ServerOwner.server as F
use Rattle.nic82540em.specs.contracts.server_owner.ServerOwner.server.Key.{name as #self}
use Rattle.adapter_server.specs.contracts.line_server.LineServer.{the_row as ServerRow}
use Rattle.nic82540em.specs.declared.server_owner.ServerOwner.{ServerOwner}
use Rattle.adapter_server.specs.LineServers.{LineState}
use Rattle.nic82540em.proofs.server_owner.ServerOwner.server.Statement as stated
use Rattle.nic82540em.proofs.server_owner.ServerOwner.server.Code as code

abbrev stayed : Stays (F.ended).signature.params (F.ended).kept
stayed = (stay_dropped (mut_ref_to (0 ∷ []) tt (plain (λ _. OwnerRow))) no, tt)

module _ {M : Type 1} {𝓤 : Ura M} (𝓛 : Logic 𝓤) (at_mem : Memory → SProp 𝓤) (run : Routine → Fun 𝓤) (𝓣 : Tables 𝓤 𝓛.H) (κ : Lft)
    (q : Share) (rb ro : ℕ) (γ : GName) (h : ServerOwner) (us : List Val) where
  open 𝓛 use {H, A}

  abbrev bound : (walk_of 𝓛 F.ended stayed (F.clauses 𝓛 at_mem run)).Ghost
  bound = (((κ, tt), (q, tt), tt, (record { ref_ptr = (rb, ro); ghost_name = γ; now = h }, tt), (us, tt)), tt)

  abbrev Post : Val → SProp 𝓤
  Post = (walk_of 𝓛 F.ended stayed (F.clauses 𝓛 at_mem run)).post bound

  -- the owner as a box
  abbrev boxed : D E
  boxed = record { ptr = h.at; alloc = h.alloc; value = h.value }

  module _ (b o : ℕ) (hv : Val) where
    -- all of the owner but the server
    abbrev Rest : Fml
    Rest = fsep (fsep (token E.al h.alloc (bare (τ E)) (block_ptr b o)) (handle E h.alloc hv))
        (cell_at full_share OwnerRow.mir (word E hv b o ∷ []) rb ro)

    back : h.full ≡ true → h.at ≡ block_ptr b o → (w : LineState)
        → ent 𝓤 (sep 𝓤 (sem 𝓛 ((mem ServerRow).own_at w b o)) (sem 𝓛 Rest)) (sem 𝓛 ((mem OwnerRow).own_at (with_server h w) rb ro))
    unfolding part_of
    back is_full at_b w =
        let v : D E = record { ptr = h.at; alloc = h.alloc; value = w } in
        qed 𝓛 (‵ (part_at (R E) full_share w b o) ∷ ‵ Rest ∷ []) ∵ move ! (1 ∷ []) $ fsplit ! $ fsplit ! $ move ! (3 ∷ []) $
        box_in E ! v b o w at_b refl $
        use1 𝓛 (‵ (OwnerRow.own_val (record { at = h.at; alloc = h.alloc; full = true; value = w }) (word E hv b o ∷ []))) (id⊢ 𝓤 _) $
        rewrite ! 0 (λ (f : Bool). ‵ (OwnerRow.own_val (record { at = h.at; alloc = h.alloc; full = f; value = w }) (word E hv b o ∷ [])))
        (sym is_full) refl $ move ! (1 ∷ 0 ∷ []) $ fjoin ! $
        fpack ! (List Val) (λ vs. fsep (cell_at full_share OwnerRow.mir vs rb ro) (OwnerRow.own_val (with_server h w) vs))
        (word E hv b o ∷ []) $ done !

    exits : (δ : GName)
        → ent 𝓤 (sep 𝓤 (sem 𝓛 ((MutRef (named 0) κ ServerRow).own_val (record { ref_ptr = (b, o); ghost_name = δ; now = h.value })
        (vptr b o ∷ []))) (sep 𝓤 (A.lft κ q) (sem 𝓛 (follows OwnerRow ServerRow γ δ (with_server h))))) (Post (vptr b o))
    exits δ =
        let r : MutBor LineState = record { ref_ptr = (b, o); ghost_name = δ; now = h.value } in
        qed 𝓛 (‵ ((MutRef (named 0) κ ServerRow).own_val r (vptr b o ∷ [])) ∷ ‵ (flft κ q)
        ∷ ‵ (follows OwnerRow ServerRow γ δ (with_server h)) ∷ []) ∵
        suffices ! _ (ends_at 𝓛 F.ended stayed (F.clauses 𝓛 at_mem run) bound (vptr b o) r (tt, tt) (tt, tt)) $
        nothing ! $ nothing ! $ fjoin ! $ join ! $ nothing ! $ move ! (2 ∷ 0 ∷ []) $ join ! $ join ! $ frame ! $ says ! refl $ done !

  abbrev Had : List (Item 𝓤)
  Had = ‵ (fobs γ (OwnerRow.coded.code h)) ∷ ‵ (fbor κ (Borrowed (mem OwnerRow) rb ro γ)) ∷ ‵ (flft κ q) ∷ []

  walk : h.full ≡ true → ent 𝓤 (⋆ 𝓛 Had) (WpFn 𝓤 H 𝓣.C 𝓣.Λ code.function (vptr rb ro ∷ []) Post)
  walk is_full =
      let gv = OwnerRow.coded.code h in
      qed 𝓛 Had ∵ enter ! 𝓣.C 𝓣.Λ code.function (vptr rb ro ∷ []) _ $ alloc_all ! (λ l. pass_all ! refl ((tt, tt), tt) $
      let En : Env 𝓤 H = env code.function.locals l in
      opens ! tt OwnerRow {h = h} rb ro (λ vs. move ! (1 ∷ []) $
      use1 𝓛 (‵ (OwnerRow.own_val (record { at = h.at; alloc = h.alloc; full = h.full; value = h.value }) vs)) (id⊢ 𝓤 _) $
      rewrite ! 0 (λ (f : Bool). ‵ (OwnerRow.own_val (record { at = h.at; alloc = h.alloc; full = f; value = h.value }) vs)) is_full refl $
      use1 𝓛 (‵ ((B E).own_val boxed vs)) (id⊢ 𝓤 _) $
      box_out E ! boxed vs (λ b o hv at_b ws fa. move ! (1 ∷ 2 ∷ []) $ fjoin ! $ move ! (1 ∷ []) $
      rewrite ! 2 (λ (xs : List Val). ‵ (cell_at full_share OwnerRow.mir xs rb ro)) ws refl $
      -- [the server; the token with the handle; the words; the open borrow; obs; auth]
      sets ! (of_opd ! (load ! (through ! refl (fld ! refl (stop !))) (look_in ! 2 (sub ! 0 refl (whole !))))) refl (tt, tt) $
      sets ! (of_opd ! (get ! refl)) refl (tt, tt) $ first ! $ blocks ! $
      sets_last ! (addr ! (through ! refl (stop !))) refl (tt, tt) $ exec ! 𝓣.C 𝓣.Λ En (after 3 code.function.body) (at_ret En Post) $
      sets ! (of_opd ! (get ! refl)) refl (tt, tt) $
      move ! (1 ∷ 2 ∷ []) $ fjoin ! $ move ! (2 ∷ 3 ∷ 4 ∷ 1 ∷ 0 ∷ []) $ group ! 5 $
      use1 𝓛 (later (some (λ (δ : GName). raw (Part 𝓛 OwnerRow ServerRow (with_server h) (named 0) κ q rb ro b o γ (sem 𝓛 (Rest b o hv))
      (back b o hv is_full at_b) h.value δ))))
      (lends_Part 𝓛 OwnerRow ServerRow (with_server h) (named 0) κ q rb ro b o γ (sem 𝓛 (Rest b o hv)) (back b o hv is_full at_b) gv gv
      h.value) $ await ! tt $ pick ! (λ δ. returns ! (look_at ! 0 refl) $ free_all ! refl $ keep ! (0 ∷ []) $ by ! (exits b o hv δ)))))

  entry : h.full ≡ true → ent 𝓤 (on_entry 𝓛 (F.ended).signature (κ, tt) (q, tt)
      (record { ref_ptr = (rb, ro); ghost_name = γ; now = h }, tt) (us, tt)) (WpFn 𝓤 H 𝓣.C 𝓣.Λ code.function (us ++ []) Post)
  entry is_full =
      qed 𝓛 ((‵ (flft κ q) ⊛ ‵ ftrue) ∷ ‵ (owns (MutRef (named 0) κ OwnerRow ∷ [])
      (record { ref_ptr = (rb, ro); ghost_name = γ; now = h }, tt) (us, tt)) ∷ []) ∵
      split ! $ move ! (2 ∷ []) $ fsplit ! $ fsplit3 ! $ feq_l ! (λ e. keep ! (0 ∷ 1 ∷ 3 ∷ []) $
      by ! (subst (λ (ws : List Val). ent 𝓤 (⋆ 𝓛 Had) (WpFn 𝓤 H 𝓣.C 𝓣.Λ code.function (ws ++ []) Post)) (sym e) (walk is_full)))

pub server_spec : {M : Type 1} → stated.statement M
unfolding tables_of
server_spec 𝓤 𝓛 𝓜 𝓡 wired =
    let 𝓣 : Tables 𝓤 𝓛.H = tables_of 𝓤 𝓛.H 𝓜 (tables 𝓤 𝓛.H 𝓜 𝓡 𝓡.env) in
    entered 𝓤 𝓛.H (triple_of 𝓛 F.signature (F.spec 𝓛 𝓜.mem 𝓡.returns)) 𝓣.C 𝓣.Λ #self code.function (code.unfolded 𝓤 𝓛.H 𝓜 𝓡 wired)
    (walk_Meets 𝓛 F.ended stayed (Goes-spent_ref 𝓛 1 (0 ∷ []) tt (plain (λ _. OwnerRow)), tt) (F.clauses 𝓛 𝓜.mem 𝓡.returns)
    (WpFn 𝓤 𝓛.H 𝓣.C 𝓣.Λ code.function) (WpFn-mono 𝓤 𝓛.H 𝓛.laws 𝓣 code.function)
    (λ z. let a = z.0.3.0 in needs 𝓤 (a.now.full ≡ true) _
    (entry 𝓛 𝓜.mem 𝓡.returns 𝓣 z.0.0.0 z.0.1.0 a.ref_ptr.0 a.ref_ptr.1 a.ghost_name a.now z.0.4.0)))
