-- Attributes as places in the bytes of all their names and values.
use Rattle.std.specs.Prelude.{◌≡◌, ℕ, ◌≤◌, ◌-◌, if◌then◌else◌, List, length, nat_lt, take, drop, map}
use Rattle.std.specs.List.{All, sum_by}
use Rattle.std.specs.Str.{IsCharBoundary}
use Rattle.std.specs.declared.cmp.Ordering.{Ordering}
use Rattle.std.specs.declared.cmp.Ordering.TheVariants.{Less}
use Rattle.ovl_names.specs.Names.{name_cmp}
use Rattle.ovl_inode.specs.declared.tables.Part.{Part}
use Rattle.ovl_inode.specs.declared.tables.AttributePlace.{AttributePlace}
use Rattle.ovl_inode.specs.Attributes.{Attributes}

-- the bytes of a part
abbrev pub bytes_of : List ℕ → Part → List ℕ
bytes_of bytes part = take (part.end - part.start) (drop part.start bytes)

-- the attribute at a place
abbrev pub attribute_of : List ℕ → List ℕ → AttributePlace → List ℕ × List ℕ
attribute_of names values place = (bytes_of names place.name, bytes_of values place.value)

-- how the name at a place is to another; where no name is at the place, it comes before each
abbrev pub place_order : List ℕ → List ℕ → AttributePlace → Ordering
place_order names name place =
    if nat_lt place.name.end place.name.start then Less
    else if nat_lt (length names) place.name.end then Less
    else name_cmp (bytes_of names place.name) name

abbrev pub attributes_of : List ℕ → List ℕ → List AttributePlace → Attributes
attributes_of names values places = map (attribute_of names values) places

-- the part is one of bytes, and of a text
pub record IsPart (bytes : List ℕ) (part : Part) : Type 0 where
  pub order : part.start ≤ part.end
  pub inside : part.end ≤ length bytes

pub record IsTextPart (text : List ℕ) (part : Part) : Type 0 where
  pub order : part.start ≤ part.end
  pub first : IsCharBoundary text part.start
  pub last : IsCharBoundary text part.end

pub record IsAttributePlace (names values : List ℕ) (place : AttributePlace) : Type 0 where
  pub name : IsTextPart names place.name
  pub value : IsPart values place.value

abbrev pub ArePlaces : List ℕ → List ℕ → List AttributePlace → Type 0
ArePlaces names values places = All (IsAttributePlace names values) places

-- how many bytes the names of attributes come to, and their values
abbrev pub name_bytes : Attributes → ℕ
name_bytes attrs = sum_by (λ (attr : List ℕ × List ℕ). length attr.0) attrs

abbrev pub value_bytes : Attributes → ℕ
value_bytes attrs = sum_by (λ (attr : List ℕ × List ℕ). length attr.1) attrs

-- the places are of attributes that come to as many bytes as there are
pub record IsFull (names values : List ℕ) (places : List AttributePlace) : Type 0 where
  pub are : ArePlaces names values places
  pub named : name_bytes (attributes_of names values places) ≡ length names
  pub valued : value_bytes (attributes_of names values places) ≡ length values
