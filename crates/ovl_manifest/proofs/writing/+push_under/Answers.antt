use Rattle.std.proofs.Common.{◌≡◌, ℕ, ◌∷◌, [], ◌++◌, ◌∙◌, List, true, length, take, sym, ap, arith, append_assoc, string_bytes}
use Rattle.std.specs.Prelude.{codes}
use Rattle.std.proofs.lemmas.List.Concat.{flat_map-append}
use Rattle.std.proofs.lemmas.List.{append-nil, take_all}
use Rattle.serde_json.specs.Written.{compact_text}
use Rattle.ovl_names.specs.Names.{slash}
use Rattle.ovl_names.specs.Paths.{PathNames, child_path, path_text}
use Rattle.ovl_inode.specs.declared.inodes.Inode.{Inode}
use Rattle.ovl_manifest.specs.Compact.{entries_text}
use Rattle.ovl_layer.specs.Layers.{Entries}
use Rattle.ovl_layer.specs.LayerTrees.{NodeView, entries_of_nodes, under, entries_from, placed}
use Rattle.ovl_manifest.specs.Text.{entry_value}
use Rattle.ovl_layer.specs.TextPaths.{slashed}
use Rattle.ovl_layer.proofs.NodeLemmas.{entries_of_nodes-more, fewer_below, placed-under, placed-append}
use Rattle.ovl_manifest.proofs.CompactLemmas.{Grows, onto, entries-append}
use Rattle.ovl_manifest.proofs.writing.+push_under.Goals as goal

slashed-below : (directory : PathNames) (name : List ℕ) → slashed directory ++ slash ∷ name ≡ slashed (child_path directory name)
slashed-below directory name = sym (flat_map-append (λ own. slash ∷ own) directory (name ∷ []) ∙ ap (λ (t : List ℕ). slashed directory ++ t) (append-nil (slash ∷ name)))

text-below : (directory : PathNames) (name : List ℕ) → slashed directory ++ slash ∷ name ≡ path_text (child_path directory name)
text-below [] name = slashed-below [] name
text-below (first ∷ names) name = slashed-below (first ∷ names) name

-- the text of the node's path, by that of its directory
abbrev LiesIn : List ℕ → List ℕ → List ℕ → Type 0
LiesIn path above name = path ≡ (above ++ codes "/") ++ name

spelled : (path above name : List ℕ) (directory : PathNames) → LiesIn path above name → above ≡ slashed directory → path ≡ slashed (child_path directory name)
spelled path above name directory is same = is ∙ (append_assoc above (codes "/") name ∙ (ap (λ (t : List ℕ). t ++ slash ∷ name) same ∙ slashed-below directory name))

spelled-whole : (path above name : List ℕ) (directory : PathNames) → LiesIn path above name → above ≡ slashed directory → path ≡ path_text (child_path directory name)
spelled-whole path above name directory is same = is ∙ (append_assoc above (codes "/") name ∙ (ap (λ (t : List ℕ). t ++ slash ∷ name) same ∙ text-below directory name))

pub push_under-requires : goal.push_under-requires
push_under-requires n c =
    let fewer = fewer_below c.children-child-items.result.now c.loop-child.child-index c.child-item.result c.loop-child-test.true c.child-item.is in
    let count = ap length c.children-child-items.ensures in
    (omega (arith, fewer, count), tt)

pub loop-child-preserved : goal.loop-child-preserved
loop-child-preserved n c = (
  λ directory same.
      let nodes : List NodeView = c.children-child-items.result.now in
      let node : NodeView = c.child-item.result in
      let path : PathNames = child_path directory c.args.node.now.name in
      let done : Entries = entries_of_nodes (take c.loop-child.child-index nodes) in
      let own : Entries = under node.name (entries_from node.inode node.below) in
      let before : List ℕ = c.push_entry.new.text.items in
      let more = entries_of_nodes-more nodes c.loop-child.child-index node c.loop-child-test.true c.child-item.is in
      let lies : LiesIn (string_bytes c.push_str-2.new.self) (string_bytes c.args.path.now) c.args.node.now.name =
      c.in_ok-push_str-2.ensures.bytes ∙ (λ j. c.in_ok-push_str.ensures.bytes j ++ (c.as_str.ensures.value ∙ c.name.ensures) j) in
      let text : string_bytes c.loop-child.path ≡ slashed path =
      c.loop-child.invariant.1 ∙ spelled (string_bytes c.push_str-2.new.self) (string_bytes c.args.path.now) c.args.node.now.name directory lies same in
      let below = sym (placed-under path node.name (entries_from node.inode node.below)) in
      let both : entries_text true (placed path done) ++ entries_text true (placed path own) ≡ entries_text true (placed path (done ++ own)) =
      sym (ap (entries_text true) (placed-append path done own) ∙ entries-append (placed path done) (placed path own)) in
      c.in_ok-push_under.ensures.text path text
      ∙ ((λ j. c.loop-child.invariant.0 directory same j ++ entries_text true (below j))
      ∙ (append_assoc before (entries_text true (placed path done)) (entries_text true (placed path own))
      ∙ ap (λ (t : List ℕ). before ++ t) (both ∙ ap (λ (es : Entries). entries_text true (placed path es)) (sym more)))),
  c.in_ok-push_under.ensures.path ∙ c.loop-child.invariant.1,
)

pub returns-clause-text : goal.returns-clause-text
returns-clause-text n c directory same =
    let nodes : List NodeView = c.children-child-items.result.now in
    let path : PathNames = child_path directory c.args.node.now.name in
    let inode : Inode = c.inode.result.now in
    let before : List ℕ = c.args.text.now.items in
    let below : Entries = entries_of_nodes (take c.loop-child.child-index nodes) in
    let lies : LiesIn (string_bytes c.push_str-2.new.self) (string_bytes c.args.path.now) c.args.node.now.name =
    c.in_ok-push_str-2.ensures.bytes ∙ (λ j. c.in_ok-push_str.ensures.bytes j ++ (c.as_str.ensures.value ∙ c.name.ensures) j) in
    let text : c.as_str-2.result.now ≡ path_text path =
    c.as_str-2.ensures.value ∙ spelled-whole (string_bytes c.push_str-2.new.self) (string_bytes c.args.path.now) c.args.node.now.name directory lies same in
    let seen : below ≡ c.args.node.now.below = ap entries_of_nodes (take_all c.loop-child.child-index nodes c.loop-child-test.false) ∙ c.children-child-items.ensures in
    let whole : (path, inode) ∷ placed path below ≡ placed path (entries_from c.args.node.now.inode c.args.node.now.below) =
    λ j. (sym (append-nil path) j, c.inode.ensures j) ∷ placed path (seen j) in
    let comma : Grows before (codes ",") (c.push.new.self.items) = record { is = c.in_ok-push.ensures.items } in
    let first : Grows (c.push.new.self.items) (compact_text (entry_value (path, inode))) (c.push_entry.new.text.items) = record { is = c.in_ok-push_entry.ensures path text } in
    let rest : Grows (c.push_entry.new.text.items) (entries_text true (placed path below)) (c.loop-child.text.items) = record { is = c.loop-child.invariant.0 directory same } in
    (onto comma (onto first rest)).is ∙ ap (λ (es : Entries). before ++ entries_text true es) whole
