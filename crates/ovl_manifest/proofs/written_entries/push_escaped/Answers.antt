use Rattle.std.proofs.Common.{rules, ◌≡◌, ◌∙◌, ◌++◌, ◌∷◌, [], List, ℕ, append-nil, ap}
use Rattle.json.specs.Token.{Token}
use Rattle.json.specs.Print.{quoted, print, print_from}
use Rattle.ovl_manifest.proofs.written_entries.push_escaped.Goals as goal

printed : (string : List ℕ) → print (Token.string string ∷ []) ≡ quoted string
unfolding print_from
printed string = append-nil (quoted string)

pub returns : goal.returns
returns c =
    let tokens : c.string.new.self.tokens ≡ Token.string c.args.string.now ∷ [] = c.in_ok-string.ensures.ok ∙ ap (λ (ts : List Token). ts ++ Token.string c.args.string.now ∷ []) c.new-out.ensures.tokens in
    let before : c.string.new.self.before ≡ [] = search rules in
    let text : c.into_inner.result.items ≡ quoted c.args.string.now =
    c.into_inner.ensures.items ∙ (ap (λ (bytes : List ℕ). bytes ++ print c.string.new.self.tokens) before ∙ (ap print tokens ∙ printed c.args.string.now)) in
    search (rules, text)
