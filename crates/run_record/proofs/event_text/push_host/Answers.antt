use Rattle.std.proofs.Common.{◌++◌, [], ℕ, List, Option, ap, append-nil, map, option_map, string_bytes, sym, unwrap_or, ◌∙◌}
use Rattle.std.proofs.lemmas.Option.{slice_get-map}
use Rattle.run_record.specs.EventTexts.{name_at}
use Rattle.run_record.proofs.Appended.{appended}
use Rattle.run_record.proofs.Found.{item-found, none-found}
use Rattle.run_record.proofs.event_text.push_host.Goals as goal

-- the name, or no bytes
abbrev name-or : Option (List ℕ) → List ℕ
name-or found = unwrap_or found []

pub returns-in-Some : goal.returns-in-Some
returns-in-Some c =
    let names = c.args.names.now in
    let found = item-found names c.args.host c.in-Some.name.now c.in-Some.ensures.lookup.0 c.in-Some.ensures.lookup.1 in
    let name = ap name-or (slice_get-map string_bytes names c.args.host ∙ ap (option_map string_bytes) found) in
    appended c.extend_from_slice-in-Some.result c.args.text.now.items c.args.label.now (name_at (map string_bytes names) c.args.host)
    c.extend_from_slice.new.self.items c.as_bytes.result.now c.extend_from_slice-in-Some.new.self.items
    c.in_ok-extend_from_slice.ensures.items (c.as_bytes.ensures.value ∙ sym name) c.extend_from_slice-in-Some.ensures.items

pub returns-in-None : goal.returns-in-None
returns-in-None c =
    let names = c.args.names.now in
    let text = c.args.text.now.items in
    let label = c.args.label.now in
    let none = ap name-or (slice_get-map string_bytes names c.args.host
    ∙ ap (option_map string_bytes) (none-found names c.args.host c.in-None.ensures.lookup.0)) in
    c.in_ok-extend_from_slice.ensures.items
    ∙ ap (λ (list : List ℕ). text ++ list) (sym (append-nil label) ∙ ap (λ (name : List ℕ). label ++ name) (sym none))
