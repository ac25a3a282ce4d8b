use Rattle.std.proofs.Common.{◌≡◌, Some}
use Rattle.scenario.specs.Meanings.{items_held, most_items, with_item}
use Rattle.scenario.specs.SoFar.{hosts_of, host_place}
use Rattle.scenario.proofs.Changes.{change-host}
use Rattle.scenario.proofs.host_change.add_item.Goals as goal

pub returns : goal.returns
returns c =
    let found : host_place c.args.name.now (hosts_of c.args.hosts.now) ≡ Some c.in-Some.place = cc in
    change-host c.args.name.now (items_held c.args.item) (most_items c.args.item) (with_item c.args.item) c.args.hosts.now
    c.in-Some.place c.index-hosts-place.result c.push_item.new.host c.push_item.result found c.push_item.ensures
