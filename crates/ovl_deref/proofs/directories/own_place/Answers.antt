use Rattle.std.proofs.Common.{◌≡◌, ◌∙◌, ◌++◌, ◌∷◌, false, [], sym, ap, subst, append_assoc, append-nil}
use Rattle.std.specs.Option.{option_map}
use Rattle.ovl_names.specs.Names.{PathName}
use Rattle.ovl_names.specs.Paths.{PathNames, child_path}
use Rattle.ovl_inode.specs.Marks.{mark_of}
use Rattle.ovl_layer.specs.Layers.{Entries, entry_at}
use Rattle.ovl_layer.specs.Sheets.{path_at}
use Rattle.ovl_lookup.specs.Sound.{is_moved}
use Rattle.ovl_deref.specs.declared.directories.OwnPlace.TheVariants.{Moved, Row, Absent}
use Rattle.ovl_deref.specs.Directories.{is_at_moved}
use Rattle.ovl_deref.specs.Visits.{IsOwnPlace}
use Rattle.ovl_deref.proofs.VisitLemmas.{moved-there, moved-above, nothing-beyond, nothing-moved}
use Rattle.ovl_deref.proofs.directories.own_place.Goals as goal

pub returns-in_default : goal.returns-in_default
returns-in_default c =
    let layer : Entries = c.top-sheet.result.now in
    let above : PathNames = path_at layer c.loop-name.row in
    let name : PathName = c.in-Some.name.now in
    let rest : PathNames = c.next.new.self in
    let whole : above ++ name ∷ rest ≡ c.args.dir.now = sym (ap (λ (left : PathNames). above ++ left) c.in-Some.ensures.steps) ∙ c.loop-name.invariant.there in
    subst (λ (top : Entries). IsOwnPlace top c.args.dir.now Absent) c.top-sheet.ensures.value
    (subst (λ (path : PathNames). IsOwnPlace layer path Absent) whole (
      nothing-moved layer above name c.loop-name.invariant.free rest c.in_default.ensures,
      nothing-beyond layer above name c.loop-name.invariant.free rest c.in_default.ensures,
    ))

pub returns-then-is_moved : goal.returns-then-is_moved
returns-then-is_moved c =
    let layer : Entries = c.top-sheet.result.now in
    let above : PathNames = path_at layer c.loop-name.row in
    let name : PathName = c.in-Some.name.now in
    let rest : PathNames = c.next.new.self in
    let whole : above ++ name ∷ rest ≡ c.args.dir.now = sym (ap (λ (left : PathNames). above ++ left) c.in-Some.ensures.steps) ∙ c.loop-name.invariant.there in
    let place : path_at layer c.in-Some-child.child ≡ child_path above name = c.in-Some-child.ensures.1 in
    subst (λ (top : Entries). IsOwnPlace top c.args.dir.now Moved) c.top-sheet.ensures.value
    (subst (λ (path : PathNames). IsOwnPlace layer path Moved) whole
    (moved-above layer above name c.loop-name.invariant.free rest
    (sym c.if-is_moved.true ∙ (c.is_moved.ensures ∙ ap is_moved (sym c.mark.ensures ∙ ap (λ (path : PathNames). option_map mark_of (entry_at layer path)) place)))))

pub loop-name-preserved : goal.loop-name-preserved
loop-name-preserved c =
    let layer : Entries = c.top-sheet.result.now in
    let above : PathNames = path_at layer c.loop-name.row in
    let name : PathName = c.in-Some.name.now in
    let rest : PathNames = c.next.new.self in
    let whole : above ++ name ∷ rest ≡ c.args.dir.now = sym (ap (λ (left : PathNames). above ++ left) c.in-Some.ensures.steps) ∙ c.loop-name.invariant.there in
    let place : path_at layer c.in-Some-child.child ≡ child_path above name = c.in-Some-child.ensures.1 in
    record {
      inside = c.in-Some-child.ensures.0;
      there = ap (λ (path : PathNames). path ++ rest) place ∙ (append_assoc above (name ∷ []) rest ∙ whole);
      free = ap (is_at_moved layer) place
          ∙ moved-there layer above name c.loop-name.invariant.free false
          (sym c.if-is_moved.false ∙ (c.is_moved.ensures ∙ ap is_moved (sym c.mark.ensures ∙ ap (λ (path : PathNames). option_map mark_of (entry_at layer path)) place)));
    }

pub returns : goal.returns
returns c =
    let layer : Entries = c.top-sheet.result.now in
    let row = c.loop-name.row in
    let above : PathNames = path_at layer row in
    let whole : above ≡ c.args.dir.now =
    sym (append-nil above) ∙ (sym (ap (λ (left : PathNames). above ++ left) c.in-None.ensures.steps.0) ∙ c.loop-name.invariant.there) in
    subst (λ (top : Entries). IsOwnPlace top c.args.dir.now (Row row)) c.top-sheet.ensures.value
    (ap (is_at_moved layer) (sym whole) ∙ c.loop-name.invariant.free, c.loop-name.invariant.inside, whole)
