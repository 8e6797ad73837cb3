-- Objects of exactly some members.
use Rattle.std.proofs.Common.{◌≡◌, ◌∙◌, ℕ, ◌+◌, List, ◌++◌, Bool, false, ap, refl, Some, None, length, length-append, nat_eq, Bor, map, eq-eqb, arith}
use Rattle.std.specs.Prelude.{◌&&◌, is_some, unwrap_or}
use Rattle.std.specs.List.{list_all}
use Rattle.std.proofs.lemmas.List.{length-map}
use Rattle.std.proofs.lemmas.List.Folds.{list_all-append, list_all-map}
use Rattle.serde_json.specs.Data.{Data, null, boolean, number, string, array, object, Members, no_members, member}
use Rattle.serde_json.specs.Events.{members_len}
use Rattle.serde_json.specs.Find.{as_object, get}
use Rattle.ovl_inode.specs.Attributes.{Attributes}
use Rattle.ovl_manifest.specs.Fields.{member_count, has_count, has_exactly, attribute_after, attributes_after}

pub member_count-len : (members : Members) → member_count members ≡ members_len members
member_count-len no_members = refl
member_count-len (member name value more) = omega (arith, member_count-len more)

-- a value that is an object
object-of : (value : Data) (all : Members) → as_object value ≡ Some all → value ≡ object all
object-of null all is = let bad : None ≡ Some all = is in cc
object-of (boolean b) all is = let bad : None ≡ Some all = is in cc
object-of (number n) all is = let bad : None ≡ Some all = is in cc
object-of (string text) all is = let bad : None ≡ Some all = is in cc
object-of (array items) all is = let bad : None ≡ Some all = is in cc
object-of (object own) all is = ap (λ o. object (unwrap_or o own)) is

pub no-object : (names : List (List ℕ)) (value : Data) → as_object value ≡ None → has_exactly names value ≡ false
no-object names null is = refl
no-object names (boolean b) is = refl
no-object names (number n) is = refl
no-object names (string text) is = refl
no-object names (array items) is = refl
no-object names (object own) is = let bad : Some own ≡ None = is in cc

-- an object has exactly these members and those where it has as many, and all of them
module _ (own common : List (Bor (List ℕ))) (value : Data) (members : Members) (is : as_object value ≡ Some members) where
  abbrev now : Bor (List ℕ) → List ℕ
  now name = name.now

  abbrev is_there : List ℕ → Bool
  is_there name = is_some (get name value)

  abbrev names : List (List ℕ)
  names = map now own ++ map now common

  count : length names ≡ length own + length common
  count = omega (arith, length-append (map now own) (map now common), length-map own now, length-map common now)

  counts : has_count (length names) value ≡ nat_eq (members_len members) (length own + length common)
  counts = ap (has_count (length names)) (object-of value members is) ∙ (λ j. nat_eq (member_count-len members j) (count j))

  all : list_all is_there names ≡ (list_all (λ name. is_some (get name.now value)) own && list_all (λ name. is_some (get name.now value)) common)
  all = list_all-append is_there (map now own) (map now common) ∙ (λ j. list_all-map is_there now own j && list_all-map is_there now common j)

  pub has_exactly-counted : members_len members ≡ length own + length common → has_exactly names value ≡ (list_all (λ name. is_some (get name.now value)) own && list_all (λ name. is_some (get name.now value)) common)
  has_exactly-counted same = λ j. (counts ∙ eq-eqb (members_len members) (length own + length common) same) j && all j

  pub has_exactly-miscounted : nat_eq (members_len members) (length own + length common) ≡ false → has_exactly names value ≡ false
  has_exactly-miscounted other = ap (λ b. b && list_all is_there names) (counts ∙ other)

-- a member whose attribute can be put, and one that states none
pub attributes_after-put : (attrs more : Attributes) (name : List ℕ) (value : Data) (others : Members) → attribute_after attrs name value ≡ Some more → attributes_after attrs (member name value others) ≡ attributes_after more others
attributes_after-put attrs more name value others put = rw put refl

pub attributes_after-refused : (attrs : Attributes) (name : List ℕ) (value : Data) (others : Members) → attribute_after attrs name value ≡ None → attributes_after attrs (member name value others) ≡ None
attributes_after-refused attrs name value others none = rw none refl
