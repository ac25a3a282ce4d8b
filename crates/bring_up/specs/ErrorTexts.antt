-- The texts of errors (our choice).
use Rattle.std.specs.Prelude.{ℕ, List, codes}
use Rattle.bring_up.specs.declared.groups.GroupError.{GroupError}
use Rattle.bring_up.specs.declared.groups.GroupError.TheVariants as group

-- the code and the name of the reason why a group isn't joined or left
abbrev pub group_error_text : GroupError → List ℕ
group_error_text group.NotGroup = codes "E23 NotGroup"
group_error_text group.GroupsFull = codes "E24 GroupsFull"
group_error_text group.NotJoined = codes "E25 NotJoined"
group_error_text group.Joined = codes "E26 Joined"
