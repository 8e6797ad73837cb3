use Rattle.std.proofs.Common.{◌≡◌, ◌∙◌, ◌++◌, ◌∷◌, ℕ, suc, [], Some, List, length, drop, ap, subst, arith}
use Rattle.std.specs.Prelude.{slice_get}
use Rattle.ovl_inode.specs.declared.inodes.Inode.{Inode}
use Rattle.ovl_inode.specs.declared.marks.Mark.{Mark}
use Rattle.ovl_inode.specs.Marks.{mark_of}
use Rattle.ovl_layer.specs.Layers.{Entries}
use Rattle.ovl_layer.specs.LayerTrees.{NodeView, entries_of_nodes}
use Rattle.ovl_layer.specs.Sheets.{afters_from, are_earlier, kid_numbers}
use Rattle.ovl_layer.specs.SheetPasses.{AddsParents, IsRoomFor}
use Rattle.ovl_layer.proofs.SheetPassLemmas.{marks_of, parents-count, root-place, root-afters}
use Rattle.ovl_layer.proofs.sheets.Room.of.Goals as goal

pub returns : goal.returns
returns c =
    let inode : Inode = c.layer.inside.inode in
    let nodes : List NodeView = c.layer.inside.children.items in
    let below : Entries = entries_of_nodes nodes in
    let parents : List ℕ = c.push_parents.new.parents.items in
    let first : c.push.new.self.items ≡ 0 ∷ [] = c.in_ok-push.ensures.items ∙ ap (λ (ns : List ℕ). ns ++ 0 ∷ []) c.new-parents.ensures.items in
    let adds : AddsParents 0 (0 ∷ []) parents below =
    subst (λ (ns : List ℕ). AddsParents 0 ns parents below) first (subst (λ (ns : List NodeView). AddsParents 0 c.push.new.self.items parents (entries_of_nodes ns)) c.deref.ensures.value c.in_ok-push_parents.ensures) in
    let count : length parents ≡ suc (length below) = parents-count 0 (0 ∷ []) parents below adds ∙ omega arith in
    let seen : c.deref-4.result.now ≡ parents = c.deref-4.ensures.value in
    let ends : c.push-2.new.self.items ≡ c.len-count.result ∷ [] = c.in_ok-push-2.ensures.items ∙ ap (λ (ns : List ℕ). ns ++ c.len-count.result ∷ []) c.in_ok-afters.ensures.items in
    let one : c.push-2.new.self.len ≡ 1 = c.push-2.new.self.ok.0 ∙ ap length ends in
    subst (λ (layer : Entries). IsRoomFor layer (record { rows = c.in_ok-rows.rows; parents = c.push_parents.new.parents; afters = c.push_afters.new.afters; kids = c.in_ok-kids.kids; marks = c.push_marks.new.marks })) c.layer.view_is
    (record {
      rows = c.in_ok-rows.ensures.items;
      capacity = omega (arith, c.in_ok-rows.ensures.capacity, c.len-count.ensures, c.push_parents.new.parents.ok.0, count);
      root = ap (λ (ns : List ℕ). slice_get ns 0) adds.grown;
      count = count;
      earlier = ap (λ (ns : List ℕ). are_earlier 1 (drop 1 ns)) adds.grown ∙ adds.earlier;
      place = root-place inode nodes parents adds;
      afters = root-afters inode nodes c.len-count.result c.push_afters.new.afters.items (omega (arith, c.len-count.ensures, c.push_parents.new.parents.ok.0, count))
          (c.in_ok-push_afters.ensures ∙ (λ j. ends j ++ afters_from (one j) (entries_of_nodes (c.deref-2.ensures.value j))));
      kids = λ number inside. c.in_ok-kids.ensures number (omega (arith, inside, ap length seen, count)) ∙ ap (λ (ns : List ℕ). Some (kid_numbers 1 (drop 1 ns) number)) seen;
      marks = c.in_ok-push_marks.ensures
          ∙ (λ j. (c.in_ok-push_of.ensures ∙ ap (λ (own : List Mark). own ++ mark_of inode ∷ []) c.in_ok-marks.ensures) j ++ marks_of (entries_of_nodes (c.deref-3.ensures.value j)));
    })
