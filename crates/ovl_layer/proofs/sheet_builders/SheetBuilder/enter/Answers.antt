use Rattle.std.proofs.Common.{◌≡◌, ◌∙◌, ◌++◌, ◌∷◌, ◌+◌, [], ℕ, List, Some, refl, sym, ap, subst, arith, length, take}
use Rattle.std.specs.Prelude.{slice_get}
use Rattle.std.proofs.lemmas.Option.{slice_get_read}
use Rattle.ovl_names.specs.Paths.{PathNames, child_path}
use Rattle.ovl_layer.specs.declared.sheets.SheetRow.{SheetRow}
use Rattle.ovl_layer.specs.Sheets.{entries_of_rows}
use Rattle.ovl_layer.specs.SheetBuilders.{built_entries, last_path, AreBuilt}
use Rattle.ovl_layer.proofs.SheetBuilderLemmas.{path-end, rows-count, entered, entered-builder}
use Rattle.ovl_layer.proofs.sheet_builders.SheetBuilder.enter.Goals as goal

pub overflow_cast-number : goal.overflow_cast-number
overflow_cast-number c = omega (arith, c.len-number.ensures, c.args.self.now.rows.ok.0, rows-count _ _ _ c.requires.builder, c.requires.entry.room)

pub overflow_add-number : goal.overflow_add-number
overflow_add-number c = omega (arith, c.len-number.ensures, c.args.self.now.rows.ok.0, rows-count _ _ _ c.requires.builder, c.requires.entry.room)

-- the number of the directory's row is on the way
listed : (c : goal.In_ok-push-2) → slice_get c.args.self.now.way.items c.args.depth ≡ Some c.index-parent.result.now
listed c =
    let way : List ℕ = c.args.self.now.way.items in
    slice_get_read way (length way) c.args.depth c.index-parent.result.now refl (omega (arith, c.requires.builder.count, c.requires.entry.within)) c.index-parent.ensures

-- the new row is at the end, and its number at the end of the way
pushed : (c : goal.In_ok-push-2) → c.push.new.self.items ≡ c.args.self.now.rows.items ++ (record { name = Some c.args.name; inode = c.args.inode; parent = c.index-parent.result.now; after = c.len-number.result + 1 }) ∷ []
pushed c = c.in_ok-push.ensures.items

onward : (c : goal.In_ok-push-2) → c.push-2.new.self.items ≡ take (c.args.depth + 1) c.args.self.now.way.items ++ length c.args.self.now.rows.items ∷ []
onward c =
    let way = c.truncate.ensures.items ∙ ap (take (c.args.depth + 1)) c.reserve.ensures.items in
    c.in_ok-push-2.ensures.items ∙ (λ j. way j ++ (c.len-number.ensures ∙ c.args.self.now.rows.ok.0) j ∷ [])

pub returns-clause-entries : goal.returns-clause-entries
returns-clause-entries c =
    ap entries_of_rows (pushed c)
    ∙ entered _ _ _ c.requires.builder c.args.depth c.index-parent.result.now c.requires.entry.within (listed c) c.args.name c.args.inode (c.len-number.result + 1)

pub returns-clause-last : goal.returns-clause-last
returns-clause-last c =
    let old = c.args.self.now in
    path-end (entries_of_rows c.push.new.self.items) (built_entries old) (child_path (take c.args.depth (last_path old)) c.args.name, c.args.inode) (returns-clause-entries c)

pub returns-clause-builder : goal.returns-clause-builder
returns-clause-builder c =
    let old = c.args.self.now in
    let can = c.requires.entry in
    let path : PathNames = child_path (take c.args.depth (last_path old)) c.args.name in
    let onto : List ℕ = take (c.args.depth + 1) old.way.items ++ length old.rows.items ∷ [] in
    subst (λ (last : PathNames). AreBuilt c.push.new.self.items c.push-2.new.self.items last) (sym (returns-clause-last c))
    (subst (λ (way : List ℕ). AreBuilt c.push.new.self.items way path) (sym (onward c))
    (subst (λ (rows : List SheetRow). AreBuilt rows onto path) (sym (pushed c))
    (entered-builder old.rows.items old.way.items (last_path old) c.requires.builder c.args.depth c.index-parent.result.now can.within (listed c) c.args.name c.args.inode (c.len-number.result + 1) can.after can.directory can.named can.sound can.unescaped can.limited can.room)))

pub returns-in_err-reserve-clause-builder : goal.returns-in_err-reserve-clause-builder
returns-in_err-reserve-clause-builder c =
    let old = c.args.self.now in
    subst (λ (way : List ℕ). AreBuilt old.rows.items way (last_path old)) (sym c.reserve.ensures.items) c.requires.builder
