use Rattle.std.specs.Option.{IfNone}
use Rattle.std.proofs.Common.{◌≡◌, ◌∙◌, ℕ, List, Option, refl, subst, sym}
use Rattle.clap.specs.Words.{Text, first_of, found_of, rows_of}
use Rattle.command_line.specs.Jobs.{name_of}
use Rattle.command_line.specs.Spelling.{SpellsAddressOf, SpellsGroup}
use Rattle.text.specs.Addresses.{SpellsAddress}
use Rattle.command_line.specs.declared.job.ValueOption.{ValueOption}
use Rattle.command_line.specs.declared.job.ValueOption.TheVariants as options
use Rattle.command_line.proofs.Getters.{text_is}
use Rattle.command_line.proofs.values.address.Goals as goal
use Rattle.command_line.proofs.values.address.Goals.{in-Group, in_default-option}

-- an address of another option than `--group` is any address
any_address : (option : ValueOption) (text : Text) (address : List ℕ) → ¬ (option ≡ options.Group) → SpellsAddressOf option text address
    → SpellsAddress text address
any_address options.Address text address not_group spells = spells
any_address options.Group text address not_group spells = absurd (not_group refl)
any_address options.Vlan text address not_group spells = spells
any_address options.Memory text address not_group spells = spells
any_address options.Registers text address not_group spells = spells
any_address options.Image text address not_group spells = spells
any_address options.Link text address not_group spells = spells
any_address options.Rxa text address not_group spells = spells
any_address options.Seed text address not_group spells = spells
any_address options.Missed text address not_group spells = spells
any_address options.Rx text address not_group spells = spells
any_address options.Tx text address not_group spells = spells
any_address options.Buffers text address not_group spells = spells
any_address options.Expect text address not_group spells = spells
any_address options.Idle text address not_group spells = spells

pub returns-in-None-clause-refused : goal.returns-in-None-clause-refused
returns-in-None-clause-refused c =
    let rows = rows_of (found_of c.args.matches.now) in
    let option = c.args.option in
    let text = c.in-Some.text.now in (
      refl,
      record {
        text = text;
        given = text_is (first_of (name_of option) rows) c.text.result (rw c.name_of.ensures at c.text.ensures) c.in-Some.is;
        unspelled = λ spelled.
            let address = c.requires rows text spelled in
            elim c.match-option.branch [
              | in-Group w ↦ subst (λ (o : Option (List ℕ)). IfNone o ((a : List ℕ) → ¬ SpellsGroup text a))
                  (sym w.address-is ∙ c.in-None.is) w.group_of-address.ensures.refused address.0
                  (subst (λ (o : ValueOption). SpellsAddressOf o text address.0) w.in-Group.is address.1)
              | in_default-option w ↦ subst (λ (o : Option (List ℕ)). IfNone o ((a : List ℕ) → ¬ SpellsAddress text a))
                  (sym w.address-is ∙ c.in-None.is) w.address_of-address.ensures.refused address.0
                  (any_address option text address.0 w.in_default-option.not-Group address.1)
            ];
      },
    )
