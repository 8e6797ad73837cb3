use Rattle.std.proofs.Common.{◌≡◌, []}
use Rattle.serde_json.specs.View.{members_view}
use Rattle.ovl_manifest.specs.Fields.{attributes_after}
use Rattle.ovl_manifest.proofs.fields.read_members.Given as goal

-- the attributes so far with those of the members that are left
abbrev pub invariant-loop-name : goal.invariant-loop-name
invariant-loop-name l = attributes_after l.attrs (members_view l.name-iterator) ≡ attributes_after [] (members_view l.fn.members.entries)
