-- JSON reads the same with a newline after it.
use Rattle.std.proofs.Common.{◌≡◌, ℕ, ◌∙◌, List, [], ◌∷◌, ◌++◌, Bool, true, false, cond, ◌&&◌, Some, refl, sym, ap, ap₂, subst, append_assoc, append-nil, arith}
use Rattle.std.specs.Prelude.{codes}
use Rattle.json.specs.Token.{Token, begin_object, end_object, begin_array, end_array, key, string, number, boolean, null, bad}
use Rattle.json.specs.Word.{ends_word, word}
use Rattle.json.specs.Lex.{Lexeme, token, comma, colon, string_token, lex, between, fresh, punctuate, tokens}
use Rattle.json.specs.Print.{escape, quoted, token_text, begins, ends, separator, print_from, print, IsPrintable, ArePrintable}
use Rattle.json.specs.Json as json
use Rattle.json.specs.Tree as tree
use Rattle.json.proofs.Numbered.{ArePrintableOrBad-tokens, value-HasNumbers}
use Rattle.json.proofs.Printed.Strings.{content-escape, lex-escape}
use Rattle.json.proofs.Printed.Numbers.{lex-number, in_word-ended}
use Rattle.json.proofs.Printed.Trees.{value-json_tokens, ArePrintable-json_tokens}
use Rattle.serde_json.specs.Data.{Data}
use Rattle.serde_json.specs.Written.{outline}

-- ---- what is printed is lexed token by token, whatever ends it

abbrev token_lexemes : Token → List Lexeme
token_lexemes begin_object = token begin_object ∷ []
token_lexemes end_object = token end_object ∷ []
token_lexemes begin_array = token begin_array ∷ []
token_lexemes end_array = token end_array ∷ []
token_lexemes (key s) = token (string s) ∷ colon ∷ []
token_lexemes (string s) = token (string s) ∷ []
token_lexemes (number s) = token (number s) ∷ []
token_lexemes (boolean b) = token (boolean b) ∷ []
token_lexemes null = token null ∷ []
token_lexemes bad = []

abbrev lexemes : Bool → List Token → List Lexeme
lexemes later [] = []
lexemes later (t ∷ ts) = cond (later && begins t) (comma ∷ []) [] ++ (token_lexemes t ++ lexemes (ends t) ts)

lex-quoted : (s r : List ℕ) → lex between (quoted s ++ r) ≡ token (string s) ∷ lex between r
unfolding lex
lex-quoted s r = ap (λ l. lex between (34 ∷ l)) (append_assoc (escape s) (34 ∷ []) r) ∙ ap₂ (λ o l. token (string_token o) ∷ l) (content-escape s r) (lex-escape s r)

lex-token_text : (t : Token) (r : List ℕ) → IsPrintable t → (ends t ≡ true → ends_word r ≡ true) → lex between (token_text t ++ r) ≡ token_lexemes t ++ lex between r
unfolding lex word
lex-token_text begin_object r is ended = refl
lex-token_text end_object r is ended = refl
lex-token_text begin_array r is ended = refl
lex-token_text end_array r is ended = refl
lex-token_text (key s) r is ended = ap (lex between) (append_assoc (quoted s) (58 ∷ []) r) ∙ lex-quoted s (58 ∷ r)
lex-token_text (string s) r is ended = lex-quoted s r
lex-token_text (number s) r is ended = lex-number s r is (ended refl)
lex-token_text (boolean true) r is ended = ap₂ (λ b l. token (cond b (boolean true) bad) ∷ l) (ended refl) (in_word-ended r (ended refl))
lex-token_text (boolean false) r is ended = ap₂ (λ b l. token (cond b (boolean false) bad) ∷ l) (ended refl) (in_word-ended r (ended refl))
lex-token_text null r is ended = ap₂ (λ b l. token (cond b null bad) ∷ l) (ended refl) (in_word-ended r (ended refl))
lex-token_text bad r is ended = absurd is

lex-separator : (b : Bool) (r : List ℕ) → lex between (cond b (44 ∷ []) [] ++ r) ≡ cond b (comma ∷ []) [] ++ lex between r
unfolding lex
lex-separator true r = refl
lex-separator false r = refl

module _ (end : List ℕ) (ended : ends_word end ≡ true) where
  value-ends : (ts : List Token) → ends_word (print_from true ts ++ end) ≡ true
  unfolding print_from
  value-ends [] = ended
  value-ends (begin_object ∷ ts) = refl
  value-ends (end_object ∷ ts) = refl
  value-ends (begin_array ∷ ts) = refl
  value-ends (end_array ∷ ts) = refl
  value-ends (key s ∷ ts) = refl
  value-ends (string s ∷ ts) = refl
  value-ends (number s ∷ ts) = refl
  value-ends (boolean b ∷ ts) = refl
  value-ends (null ∷ ts) = refl
  value-ends (bad ∷ ts) = refl

  lex-printed : (later : Bool) (ts : List Token) → ArePrintable ts → lex between (print_from later ts ++ end) ≡ lexemes later ts ++ lex between end
  unfolding lex print_from ArePrintable
  lex-printed later [] are = refl
  lex-printed later (t ∷ ts) are =
      let rest = print_from (ends t) ts in
      let comma_text = separator later t in
      ap (lex between) (append_assoc comma_text (token_text t ++ rest) end ∙ ap (λ l. comma_text ++ l) (append_assoc (token_text t) rest end))
      ∙ (lex-separator (later && begins t) (token_text t ++ (rest ++ end))
      ∙ (ap (λ l. cond (later && begins t) (comma ∷ []) [] ++ l)
      (lex-token_text t (rest ++ end) are.0 (λ e. ap (λ b. ends_word (print_from b ts ++ end)) e ∙ value-ends ts)
      ∙ (ap (λ l. token_lexemes t ++ l) (lex-printed (ends t) ts are.1) ∙ sym (append_assoc (token_lexemes t) (lexemes (ends t) ts) (lex between end))))
      ∙ sym (append_assoc (cond (later && begins t) (comma ∷ []) []) (token_lexemes t ++ lexemes (ends t) ts) (lex between end))))

tokens-newline : (ts : List Token) → ArePrintable ts → tokens (print ts ++ codes "\n") ≡ tokens (print ts)
unfolding lex
tokens-newline ts are =
    ap (punctuate fresh)
    (lex-printed (codes "\n") refl false ts are
    ∙ sym (ap (lex between) (sym (append-nil (print ts))) ∙ lex-printed [] refl false ts are))

-- ---- a value's text

module _ (text : List ℕ) (value : Data) (own : tokens text ≡ tree.json_tokens (outline value)) where
  parsed : json.value (tree.depth (outline value)) (tokens text) ≡ Some (outline value, [])
  parsed =
      ap (json.value (tree.depth (outline value))) (own ∙ sym (append-nil (tree.json_tokens (outline value))))
      ∙ value-json_tokens (outline value) (tree.depth (outline value)) [] (omega arith)

  printable : ArePrintable (tokens text)
  printable = subst ArePrintable (sym own) (ArePrintable-json_tokens (outline value) (value-HasNumbers (tree.depth (outline value)) (tokens text) [] (outline value) (ArePrintableOrBad-tokens text) parsed))

  pub tokens-ended : text ≡ print (tokens text) → tokens (text ++ codes "\n") ≡ tokens text
  tokens-ended printed = ap (λ (t : List ℕ). tokens (t ++ codes "\n")) printed ∙ (tokens-newline (tokens text) printable ∙ ap tokens (sym printed))
