use Rattle.std.proofs.Common.{◌≡◌, ℕ, length, get_or, List, [], ◌∷◌, ◌++◌, sym, ap, ◌∙◌}
use Rattle.std.specs.Prelude.{slice_index_or}
use Rattle.std.proofs.Math.ListN.{get_or-append}
use Rattle.std.proofs.lemmas.List.{map-append, get_or_push}
use Rattle.ovl_inode.specs.declared.marks.Mark.{Mark}
use Rattle.ovl_inode.specs.declared.marks.Mark.TheVariants.{Leaf}
use Rattle.ovl_layer.specs.MarkLists.{marks_at, AreMarks}
use Rattle.ovl_layer.proofs.SheetLemmas.{map-each}
use Rattle.ovl_layer.proofs.mark_lists.MarkList.push.Goals as goal

-- a mark of its own after the others moves none of them
one-more : (different : List Mark) (numbers : List ℕ) (number : ℕ) (mark : Mark) → AreMarks different numbers → number ≡ length different → marks_at (different ++ mark ∷ []) (numbers ++ number ∷ []) ≡ marks_at different numbers ++ mark ∷ []
one-more different numbers number mark are last =
    map-append (λ (n : ℕ). slice_index_or (different ++ mark ∷ []) n Leaf) numbers (number ∷ [])
    ∙ (λ j. kept j ++ get_or_push different mark Leaf number (sym last) j ∷ [])
  where
    kept : marks_at (different ++ mark ∷ []) numbers ≡ marks_at different numbers
    kept = map-each (λ (n : ℕ). slice_index_or (different ++ mark ∷ []) n Leaf) (λ (n : ℕ). slice_index_or different n Leaf) numbers
        (λ i d within. get_or-append different (mark ∷ []) Leaf (get_or numbers i d) (are.inside i d within))

pub returns : goal.returns
returns c =
    (λ j. marks_at (c.in_ok-push-2.ensures.items j) ((c.push_reserved.ensures.items ∙ ap (λ (ns : List ℕ). ns ++ c.len-number.result ∷ []) c.in_ok-reserve.ensures.items) j))
    ∙ (one-more c.self.inside.different.items c.self.inside.numbers.items c.len-number.result c.args.mark c.self.invariant (c.len-number.ensures ∙ c.self.inside.different.ok.0)
    ∙ ap (λ (marks : List Mark). marks ++ c.args.mark ∷ []) c.self.view_is)
