use Rattle.std.proofs.Common.{◌++◌, ◌∷◌, [], List, ap, length, refl, sym, ◌∙◌}
use Rattle.run_record.specs.declared.kept.FrameInfo.{FrameInfo}
use Rattle.run_record.proofs.Puts.{kept-more, kept-same, put_more}
use Rattle.run_record.proofs.kept.KeptFrames.push.Goals as goal

pub invariant_of-self : goal.invariant_of-self
invariant_of-self c =
    let inside = c.self.inside in
    let kept = kept-same inside.infos.items c.reserve.new.self.items inside.bytes.items inside.bytes.items c.self.invariant.bytes
    c.self.invariant.short c.in_err-reserve.ensures.items refl in
    record { bytes = kept.0; short = kept.1 }

pub invariant_of-self-in_err-extend_from_slice : goal.invariant_of-self-in_err-extend_from_slice
invariant_of-self-in_err-extend_from_slice c =
    let inside = c.self.inside in
    let kept = kept-same inside.infos.items c.reserve.new.self.items inside.bytes.items c.extend_from_slice.new.self.items
    c.self.invariant.bytes c.self.invariant.short c.in_ok-reserve.ensures.items c.in_err-extend_from_slice.ensures.items in
    record { bytes = kept.0; short = kept.1 }

pub invariant_of-self-2 : goal.invariant_of-self-2
invariant_of-self-2 c =
    let inside = c.self.inside in
    let info : FrameInfo =
    record { host = c.args.host; socket = c.args.socket; number = c.args.number; length = length c.args.frame.now } in
    let kept = kept-more inside.infos.items c.push_reserved.new.self.items info inside.bytes.items c.extend_from_slice.new.self.items
    c.args.frame.now c.self.invariant.bytes c.self.invariant.short refl c.requires
    (c.push_reserved.ensures.items ∙ ap (λ (infos : List FrameInfo). infos ++ info ∷ []) c.reserve.ensures.items)
    c.in_ok-extend_from_slice.ensures.items in
    record { bytes = kept.0; short = kept.1 }

pub returns : goal.returns
returns c =
    let info : FrameInfo =
    record { host = c.args.host; socket = c.args.socket; number = c.args.number; length = length c.args.frame.now } in
    put_more c.args.self.now info c.args.frame.now c.self.inside.infos.items c.push_reserved.new.self.items c.self.inside.bytes.items
    c.extend_from_slice.new.self.items (sym c.self.view_is) c.self.invariant.bytes refl
    (c.push_reserved.ensures.items ∙ ap (λ (infos : List FrameInfo). infos ++ info ∷ []) c.reserve.ensures.items)
    c.in_ok-extend_from_slice.ensures.items
