use Rattle.std.proofs.Common.{◌≡◌, ℕ, ◌+◌, ◌<◌, ◌≤◌, true, Some, None, Ok, Err, List, length, get_or, rules, tests, arith}
use Rattle.std.specs.Prelude.{slice_index}
use Rattle.std.specs.List.Sorted.{IsBinarySearchResult}
use Rattle.std.proofs.lemmas.Fn.{always_returns_same}
use Rattle.ovl_blobs.specs.Blobs.{digest_cmp}
use Rattle.ovl_blobs.specs.ByDigest.{names_ascend, element_named, IsStart, AreStarts}
use Rattle.ovl_blobs.proofs.NamedLemmas.{part, part-bounds, part-found, part-missing}
use Rattle.ovl_blobs.proofs.by_digest.ByName.find.Goals as goal

-- the elements of one first byte, by where those of each begin
module _ {X : Type 0} (name : X → List ℕ) (xs : List X) (starts : List ℕ) (begin : AreStarts name xs starts) (byte : ℕ) (limit : byte < 256) where
  abbrev start : ℕ
  start = slice_index starts byte

  abbrev end : ℕ
  end = slice_index starts (byte + 1)

  low : IsStart name xs byte start
  low = begin byte (omega (arith, limit))

  high : IsStart name xs (byte + 1) end
  high = begin (byte + 1) (omega (arith, limit))

  bounds : (start ≤ end) × (end ≤ length xs)
  bounds = part-bounds name xs byte start end low high

  module _ (up : names_ascend name xs ≡ true) (own : List ℕ) (is : byte ≡ slice_index own 0) (spot : ℕ) where
    found : (x : X) → spot < length (part xs start end) → IsBinarySearchResult (λ x. digest_cmp (name x) own) (part xs start end) (Ok spot) → x ≡ get_or (part xs start end) spot x → Some x ≡ element_named name xs own
    found = part-found name xs byte start end low high up own is spot

    missing : IsBinarySearchResult (λ x. digest_cmp (name x) own) (part xs start end) (Err spot) → None ≡ element_named name xs own
    missing = part-missing name xs byte start end low high up own is spot

pub slice_bounds-part-count : goal.slice_bounds-part-count
slice_bounds-part-count g c =
    (bounds g.T.Named.name_of c.args.self.now.elements.now c.args.self.now.starts c.args.self.now.begin c.first_byte-first.result c.first_byte-first.ensures.limit).0

pub slice_bounds-part-start : goal.slice_bounds-part-start
slice_bounds-part-start g c =
    let both = bounds g.T.Named.name_of c.args.self.now.elements.now c.args.self.now.starts c.args.self.now.begin c.first_byte-first.result c.first_byte-first.ensures.limit in
    omega (arith, both.0, both.1)

pub slice_bounds-part-end : goal.slice_bounds-part-end
slice_bounds-part-end g c =
    (bounds g.T.Named.name_of c.args.self.now.elements.now c.args.self.now.starts c.args.self.now.begin c.first_byte-first.result c.first_byte-first.ensures.limit).1

pub returns-in-Ok : goal.returns-in-Ok
returns-in-Ok g c =
    let position = c.binary_search_by.ensures.position (λ element. digest_cmp (g.T.Named.name_of element) c.args.name.now) (always_returns_same _ _ _ (λ a r q k. (search (rules, tests), search (rules, tests)))) in
    found g.T.Named.name_of c.args.self.now.elements.now c.args.self.now.starts c.args.self.now.begin c.first_byte-first.result c.first_byte-first.ensures.limit c.args.self.now.ascend c.args.name.now c.first_byte-first.ensures.value
    c.in-Ok.place c.index-part-place.result c.in-Ok.ensures.bound (rw c.in-Ok.is at position) c.index-part-place.is

pub returns-in-Err : goal.returns-in-Err
returns-in-Err g c =
    let position = c.binary_search_by.ensures.position (λ element. digest_cmp (g.T.Named.name_of element) c.args.name.now) (always_returns_same _ _ _ (λ a r q k. (search (rules, tests), search (rules, tests)))) in
    missing g.T.Named.name_of c.args.self.now.elements.now c.args.self.now.starts c.args.self.now.begin c.first_byte-first.result c.first_byte-first.ensures.limit c.args.self.now.ascend c.args.name.now c.first_byte-first.ensures.value
    c.in-Err.field-0 (rw c.in-Err.is at position)
