use Rattle.std.proofs.Common.{◌≡◌, ◌∙◌, ◌++◌, ◌∷◌, ◌-◌, ◌≤◌, [], ℕ, List, Option, Some, None, Bor, IsSome, MatchOption, true, rules, sym, ap, subst, arith, take, length, length-append}
use Rattle.std.specs.Prelude.{IfOk}
use Rattle.ovl_names.specs.Names.{is_name}
use Rattle.ovl_names.specs.Paths.{PathNames, child_path, parent_path, has_names}
use Rattle.ovl_names.proofs.Ascending.{both, list_all-front}
use Rattle.ovl_names.proofs.PathTexts.{parent_path-child}
use Rattle.ovl_inode.specs.declared.inodes.Inode.{Inode}
use Rattle.ovl_layer.specs.declared.layer_builders.LayerBuilder.{LayerBuilder}
use Rattle.ovl_layer.specs.LayerBuilders.{builder_entries, IsLayerBuilder, CanTake}
use Rattle.ovl_layer.proofs.LayerLemmas.{after-some}
use Rattle.ovl_layer.proofs.LayerBuilderLemmas.{after_last, parent, open_dirs_length}
use Rattle.ovl_layer.proofs.layer_builders.LayerBuilder.enter.Goals as goal

-- the path of the entry is that of its directory and one name more
apart : (c : goal.After-name-1) → c.args.path.now ≡ c.unwrap-above.result.1 ++ c.unwrap-above.result.0.now ∷ []
apart c = sym c.names.ensures.value ∙ (rw c.unwrap-above.ensures at c.split_last.ensures.value)

pub unwrap-above-requires : goal.unwrap-above-requires
unwrap-above-requires c = there c.split_last.result c.split_last.ensures.value
  where
    some : c.names.result ≡ [] → ⊥
    some none = omega (arith, ap length (sym c.names.ensures.value ∙ none), after-some c.args.self.now.last c.args.path.now (after_last c.args.self.now c.requires.builder c.args.path.now c.requires.entry.after))

    there : (o : Option (Bor (List ℕ) × PathNames)) → MatchOption o (c.names.result ≡ []) (λ parts. c.names.result ≡ parts.1 ++ parts.0.now ∷ []) → IsSome o
    there None none = absurd (some none)
    there (Some parts) e = search rules

pub copy_of-requires : goal.copy_of-requires
copy_of-requires c =
    let named = (list_all-front is_name c.unwrap-above.result.1 (c.unwrap-above.result.0.now ∷ []) (sym (ap has_names (apart c)) ∙ c.names.ensures.names)).1 in
    (both {a = is_name c.unwrap-above.result.0.now} {b = true} named).0

-- the first names of the last path, and the new name, spell the new path
spelled : (builder : LayerBuilder) → IsLayerBuilder builder → (path above : PathNames) (name own : List ℕ) (inode : Inode) (depth : ℕ) → CanTake builder path inode → path ≡ above ++ name ∷ [] → own ≡ name → depth ≡ length above → (depth ≤ length builder.last) × (child_path (take depth builder.last) own ≡ path)
spelled builder is path above name own inode depth can cut copied long =
    let found = parent builder is path (after_last builder is path can.after) can.parent in
    let cut_off : depth ≡ length path - 1 = omega (arith, long, ap length cut, length-append above (name ∷ [])) in
    let way : take depth builder.last ≡ above =
    ap (λ n. take n builder.last) cut_off ∙ (found.1 ∙ (ap parent_path cut ∙ parent_path-child above name)) in (
      omega (arith, cut_off, found.0, open_dirs_length builder is),
      (λ j. child_path (way j) (copied j)) ∙ sym cut,
    )

pub enter_child-requires-clause-depth : goal.enter_child-requires-clause-depth
enter_child-requires-clause-depth c = (spelled c.args.self.now c.requires.builder c.args.path.now c.unwrap-above.result.1 c.unwrap-above.result.0.now c.in_ok-name.name c.args.inode c.len.result c.requires.entry (sym c.names.ensures.value ∙ (rw c.unwrap-above.ensures at c.split_last.ensures.value)) c.in_ok-name.ensures c.len.ensures).0

pub enter_child-requires-clause-entry : goal.enter_child-requires-clause-entry
enter_child-requires-clause-entry c = subst (λ (path : PathNames). CanTake c.args.self.now path c.args.inode) (sym (spelled c.args.self.now c.requires.builder c.args.path.now c.unwrap-above.result.1 c.unwrap-above.result.0.now c.in_ok-name.name c.args.inode c.len.result c.requires.entry (sym c.names.ensures.value ∙ (rw c.unwrap-above.ensures at c.split_last.ensures.value)) c.in_ok-name.ensures c.len.ensures).1) c.requires.entry

pub returns-clause-entries : goal.returns-clause-entries
returns-clause-entries c =
    subst (λ (path : PathNames). IfOk c.enter_child.result (λ _. builder_entries c.enter_child.new.self ≡ builder_entries c.args.self.now ++ (path, c.args.inode) ∷ [])) (spelled c.args.self.now c.requires.builder c.args.path.now c.unwrap-above.result.1 c.unwrap-above.result.0.now c.in_ok-name.name c.args.inode c.len.result c.requires.entry (sym c.names.ensures.value ∙ (rw c.unwrap-above.ensures at c.split_last.ensures.value)) c.in_ok-name.ensures c.len.ensures).1 c.enter_child.ensures.entries
