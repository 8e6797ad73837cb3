use Rattle.std.proofs.Common.{◌≡◌, ◌∙◌, ◌++◌, false, sym, ap, subst, refl, map, append-nil, List, OnOk}
use Rattle.std.specs.List.{list_any}
use Rattle.ovl_names.specs.Paths.{is_root}
use Rattle.ovl_inode.specs.Attributes.{origin_name}
use Rattle.ovl_inode.specs.Marks.{has_attribute}
use Rattle.ovl_check.specs.declared.directories.Child.{Child}
use Rattle.ovl_check.specs.declared.facts.Facts.{Facts}
use Rattle.ovl_check.specs.declared.facts.KindFacts.TheVariants.{Other}
use Rattle.ovl_check.specs.declared.facts.NamedBlob.TheVariants.{Unnamed}
use Rattle.ovl_check.specs.declared.findings.Code.{Code}
use Rattle.ovl_check.specs.declared.findings.Finding.{Finding}
use Rattle.ovl_check.specs.Checks.{layer_at, layers_below, sought_in}
use Rattle.ovl_check.specs.CheckViews.{check_view}
use Rattle.ovl_check.specs.Findings.{finding}
use Rattle.ovl_check.proofs.FactLemmas.{found-at}
use Rattle.ovl_check.proofs.GatherLemmas.{directory-facts, directory-other}
use Rattle.ovl_check.proofs.SilentLemmas.{silent-told, silent-quiet, quiet-unmoved}
use Rattle.ovl_check.proofs.checks.push_directory.Goals as goal

pub returns-then-is_silent : goal.returns-then-is_silent
returns-then-is_silent c =
    let work = check_view c.args.work.now in
    let layer = layer_at work.stack c.args.layer in
    let below = layers_below work.stack c.args.layer in
    let directory = c.args.directory.now in
    let gathered = c.requires.gathered in
    let path = directory.path.now in
    let inode = directory.inode.now in
    let mark = directory.mark.now in
    let silent = sym c.is_silent.ensures ∙ c.if-is_silent.true in
    let quiet = silent-quiet inode mark Unnamed silent in
    let held = sym c.if-not-holds_origin.true ∙ (c.hold_origin-holds_origin.ensures ∙ ap (list_any (λ (child : Child). has_attribute child.inode.now origin_name)) c.deref.ensures.value) in
    let facts : Facts = record { is_root = is_root path; inode = directory.inode; mark = directory.mark; kind = Other; blob = Unnamed; holds_origin = false } in
    let are = directory-facts work c.args.layer directory gathered (is_root path) Other false refl (directory-other layer directory gathered below (quiet-unmoved mark quiet)) held in
    let found = found-at work c.args.layer c.args.layer refl path inode facts refl are gathered.inode in
    let nothing = silent-told facts refl refl silent (sought_in work.stack c.args.layer) in
    sym (ap (λ (more : List Finding). c.args.findings.now.items ++ more) (sym found ∙ ap (λ (told : List Code). map (finding c.args.layer path) told) nothing)
    ∙ append-nil c.args.findings.now.items)

pub returns : goal.returns
returns c =
    let directory = c.args.directory.now in
    subst (λ (more : List Finding). OnOk c.push_codes.result (c.push_codes.new.findings.items ≡ c.args.findings.now.items ++ more))
    (found-at (check_view c.args.work.now) c.args.layer c.from.result c.from.ensures directory.path.now directory.inode.now c.in_ok-facts.facts c.in_ok-facts.ensures.0 c.in_ok-facts.ensures.1 c.requires.gathered.inode)
    c.push_codes.ensures
