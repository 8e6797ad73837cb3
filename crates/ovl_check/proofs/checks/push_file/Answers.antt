use Rattle.std.proofs.Common.{◌≡◌, ◌∙◌, ◌++◌, false, sym, ap, subst, refl, map, append-nil, List, OnOk}
use Rattle.ovl_names.specs.Paths.{child_path}
use Rattle.ovl_check.specs.declared.facts.Facts.{Facts}
use Rattle.ovl_check.specs.declared.facts.KindFacts.TheVariants.{Other}
use Rattle.ovl_check.specs.declared.findings.Code.{Code}
use Rattle.ovl_check.specs.declared.findings.Finding.{Finding}
use Rattle.ovl_check.specs.Checks.{layer_at, layers_below, sought_in}
use Rattle.ovl_check.specs.CheckViews.{check_view}
use Rattle.ovl_check.specs.Findings.{finding}
use Rattle.ovl_check.proofs.FactLemmas.{found-child}
use Rattle.ovl_check.proofs.GatherLemmas.{child-facts, child-other}
use Rattle.ovl_check.proofs.SilentLemmas.{silent-told, silent-quiet, quiet-stays, quiet-full}
use Rattle.ovl_check.proofs.checks.push_file.Goals as goal

pub returns-then-is_silent : goal.returns-then-is_silent
returns-then-is_silent c =
    let work = check_view c.args.work.now in
    let layer = layer_at work.stack c.args.layer in
    let below = layers_below work.stack c.args.layer in
    let directory = c.args.directory.now in
    let gathered = c.requires.gathered in
    let child = c.args.child.now in
    let name = child.name.now in
    let inode = child.inode.now in
    let mark = child.mark.now in
    let path = child_path directory.path.now name in
    let none = sym c.is_directory.ensures ∙ c.if-is_directory.false in
    let silent = sym c.is_silent.ensures ∙ c.if-is_silent.true in
    let quiet = silent-quiet inode mark c.of-blob.result silent in
    let facts : Facts = record { is_root = false; inode = child.inode; mark = child.mark; kind = Other; blob = c.of-blob.result; holds_origin = false } in
    let are = child-facts work c.args.layer directory gathered name facts c.requires.entry none c.requires.marked refl refl
    (child-other layer below directory gathered name inode c.requires.entry none mark c.requires.marked (quiet-stays mark quiet) (quiet-full mark quiet)) c.of-blob.ensures in
    let found = found-child work c.args.layer c.args.layer refl path inode facts refl are directory.path.now name refl none in
    let nothing = silent-told facts refl refl silent (sought_in work.stack c.args.layer) in
    sym (ap (λ (more : List Finding). c.args.findings.now.items ++ more) (sym found ∙ ap (λ (told : List Code). map (finding c.args.layer path) told) nothing)
    ∙ append-nil c.args.findings.now.items)

pub returns : goal.returns
returns c =
    let directory = c.args.directory.now.path.now in
    let name = c.args.child.now.name.now in
    let facts = c.in_ok-facts.facts in
    subst (λ (more : List Finding). OnOk c.push_codes.result (c.push_codes.new.findings.items ≡ c.args.findings.now.items ++ more))
    (found-child (check_view c.args.work.now) c.args.layer c.from.result c.from.ensures (child_path directory name) c.args.child.now.inode.now facts c.in_ok-facts.ensures.0 c.in_ok-facts.ensures.1 directory name refl
    (sym c.is_directory.ensures ∙ c.if-is_directory.false))
    c.push_codes.ensures
