use Rattle.std.proofs.Common.{◌≡◌, ◌∙◌, ◌++◌, ◌∷◌, [], ℕ, List, None, sym, ap, subst}
use Rattle.ovl_names.specs.Paths.{PathNames}
use Rattle.ovl_layer.specs.declared.sheets.SheetRow.{SheetRow}
use Rattle.ovl_layer.specs.Sheets.{entries_of_rows}
use Rattle.ovl_layer.specs.SheetBuilders.{AreBuilt}
use Rattle.ovl_layer.proofs.SheetBuilderLemmas.{path-end, root-builder}
use Rattle.ovl_layer.proofs.sheet_builders.SheetBuilder.start.Goals as goal

-- only the root's row
rows : (c : goal.In_ok-push-2) → c.push.new.self.items ≡ (record { name = None; inode = c.args.inode; parent = 0; after = 1 }) ∷ []
rows c =
    c.in_ok-push.ensures.items ∙ ap (λ (before : List SheetRow). before ++ (record { name = None; inode = c.args.inode; parent = 0; after = 1 }) ∷ []) c.in_ok-rows.ensures.items

pub returns-clause-last : goal.returns-clause-last
returns-clause-last c = path-end (entries_of_rows c.push.new.self.items) [] ([], c.args.inode) (ap entries_of_rows (rows c))

pub returns-clause-builder : goal.returns-clause-builder
returns-clause-builder c =
    let way : c.push-2.new.self.items ≡ 0 ∷ [] = c.in_ok-push-2.ensures.items ∙ ap (λ (before : List ℕ). before ++ 0 ∷ []) c.new-way.ensures.items in
    subst (λ (last : PathNames). AreBuilt c.push.new.self.items c.push-2.new.self.items last) (sym (returns-clause-last c))
    (subst (λ (numbers : List ℕ). AreBuilt c.push.new.self.items numbers []) (sym way)
    (subst (λ (made : List SheetRow). AreBuilt made (0 ∷ []) []) (sym (rows c))
    (root-builder c.args.inode 1 c.requires.directory c.requires.sound c.requires.unescaped)))
