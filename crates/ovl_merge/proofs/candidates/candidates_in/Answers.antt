use Rattle.std.proofs.Common.{◌≡◌, ◌∙◌, [], true, List, refl, sym, ap, subst}
use Rattle.std.specs.List.{filter_map}
use Rattle.std.proofs.lemmas.Result.{IfOk-weaker}
use Rattle.ovl_names.specs.Names.{PathName, name_cmp}
use Rattle.ovl_names.specs.Order.{ascends}
use Rattle.ovl_lookup.specs.NamedLists.{both_joined, names_of}
use Rattle.ovl_lookup.specs.Passes.{own_names_along}
use Rattle.ovl_names.specs.NameSets.{put_names}
use Rattle.ovl_names.proofs.LawsOfNameSets.{ascends-put}
use Rattle.ovl_merge.specs.Places.{merge_of, two_layers}
use Rattle.ovl_merge.specs.Directories.{named_inode}
use Rattle.ovl_merge.specs.Candidates.{Rowed, AreCandidates, candidates_told, hidden_names, joined, unrowed}
use Rattle.ovl_merge.proofs.FinishLemmas.{merge-each}
use Rattle.ovl_merge.proofs.LayerLemmas.{upper, lower}
use Rattle.ovl_merge.proofs.RowLists.{names-unrowed}
use Rattle.ovl_merge.proofs.CandidateLemmas.{each-candidate, hidden-ascend, hidden-candidates, hidden-entries}
use Rattle.ovl_merge.proofs.candidates.candidates_in.Goals as goal

pub merged-requires : goal.merged-requires
merged-requires c =
    let m = merge_of c.args.stack.now in
    let directory = c.args.directory.now in
    ap (λ (names : Rowed). ascends name_cmp (names_of names)) c.in_ok-hidden.ensures ∙ (ap (ascends name_cmp) (names-unrowed c.args.hidden.now ∙ c.requires.hidden) ∙ hidden-ascend m directory)

pub returns : goal.returns
returns c =
    let stack = c.args.stack.now in
    let m = merge_of stack in
    let each = merge-each stack c.requires.several c.ordinary-layers.ensures.each in
    let directory = c.args.directory.now in
    let is = c.requires.visited in
    let own : List PathName = put_names [] (own_names_along (two_layers m).layers directory.path) in
    let one = candidates_told c.in_ok-own.own.items in
    let up : ascends name_cmp (put_names own (hidden_names m directory)) ≡ true = ascends-put own (hidden_names m directory) (ascends-put [] (own_names_along (two_layers m).layers directory.path) refl) in
    IfOk-weaker c.merged.result _ _ (λ both are.
    (let merged : candidates_told both.items ≡ both_joined joined one (unrowed (hidden_names m directory)) = are ∙ ap (both_joined joined one) (c.in_ok-hidden.ensures ∙ ap unrowed c.requires.hidden) in
    let all : AreCandidates m directory (put_names own (hidden_names m directory)) (candidates_told both.items) =
    subst (AreCandidates m directory (put_names own (hidden_names m directory))) (sym merged)
    (hidden-candidates m directory own (hidden_names m directory) (ascends-put [] (own_names_along (two_layers m).layers directory.path) refl) (hidden-ascend m directory) one c.in_ok-own.ensures) in
    record {
      entries = ap (filter_map (named_inode m directory.path)) all.all ∙ hidden-entries m directory (upper m each) (lower m each) is.upper is.lower;
      rows = each-candidate m directory both.items (put_names own (hidden_names m directory)) up all;
    })) c.merged.ensures
