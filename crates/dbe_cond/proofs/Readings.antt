-- A text is at most one condition, or is refused in one way.
use Rattle.std.proofs.Common.{◌≡◌, ◌≢◌, ℕ, ◌<◌, ◌≤◌, Bool, true, false, List, [], ◌∷◌, length, get_or, refl, sym, ap}
use Rattle.std.proofs.Common.{subst, ◌∙◌, arith, Result, Ok, Err, Some, slice_get}
use Rattle.std.specs.Prelude.{IfOk, IfErr, IsTrue, ◌↔◌}
use Rattle.std.specs.List.{list_all}
use Rattle.std.proofs.lemmas.Bool.{false≢true}
use Rattle.dbe_values.specs.declared.value.AttrValue.{AttrValue}
use Rattle.dbe_tokens.specs.declared.token.Token.{Token}
use Rattle.dbe_tokens.specs.Text.{IsCut}
use Rattle.dbe_tokens.specs.Deep.{IsTooDeep}
use Rattle.dbe_tokens.proofs.Cuts.{cut_unique, place_unique, cut_not_bad}
use Rattle.dbe_tokens.specs.Ranges.{has_range}
use Rattle.dbe_tokens.proofs.TokenRanges.{cut_ranges}
use Rattle.dbe_grammar.specs.Leaves.{form_passes}
use Rattle.dbe_grammar.proofs.LeavesOfTokens.{cond_passes}
use Rattle.dbe_grammar.specs.Form.{Form}
use Rattle.dbe_grammar.specs.Grammar.{IsCond}
use Rattle.dbe_grammar.specs.Reading.{IsMisfit}
use Rattle.dbe_grammar.proofs.Whole.{cond_unique, place_unique as misfit_unique}
use Rattle.dbe_cond.specs.Condition.{Condition, condition_of}
use Rattle.dbe_cond.specs.Given.{not_given}
use Rattle.dbe_cond.specs.Placeholders.{name_placeholders, value_placeholders, is_known}
use Rattle.dbe_cond.proofs.Known.{known_tokens}
use Rattle.dbe_cond.specs.Resolved.{resolved}
use Rattle.dbe_cond.specs.Reading.{AreTokensOf, Parses, Reads, NestsTooDeep, IsMisfitAt, HasLongList, LacksName}
use Rattle.dbe_cond.specs.Reading.{LacksValue, Refuses, Gives, GivesFault, has_long_list}
use Rattle.dbe_cond.specs.declared.cond.Cond.{Cond}
use Rattle.dbe_cond.specs.declared.fault.CondFault.{CondFault}
use Rattle.dbe_cond.specs.declared.fault.CondFault.TheVariants as fault

abbrev Pairs : Type 0 → Type 0
Pairs X = List (List ℕ × X)

same_tokens : (text : List ℕ) (m n : List Token) (a b : List ℕ) → AreTokensOf text m a → AreTokensOf text n b → m ≡ n
same_tokens text m n a b x y = (cut_unique text m n a b x.cut y.cut).0

parses_tokens : (text : List ℕ) (m n : List Token) (f g : Form) → Parses text m f → Parses text n g → m ≡ n
parses_tokens text m n f g x y = same_tokens text m n x.starts y.starts x.are_tokens y.are_tokens

parses_form : (text : List ℕ) (m n : List Token) (f g : Form) → Parses text m f → Parses text n g → f ≡ g
parses_form text m n f g x y =
    cond_unique m f g x.cond (subst (λ t. IsCond t g) (sym (parses_tokens text m n f g x y)) y.cond)

pub reads_unique : (text : List ℕ) (names : Pairs (List ℕ)) (values : Pairs AttrValue) (c d : Condition) →
    Reads text names values c → Reads text names values d → c ≡ d
reads_unique text names values c d x y = x.means ∙
    ap (resolved text names values) (parses_form text x.tokens y.tokens x.form y.form x.parses y.parses) ∙ sym y.means

-- What one refusal says is not so where a later one, or a condition, is reached.
not_long : (text : List ℕ) → 4096 < length text → length text ≤ 4096 → ⊥
not_long text h k = omega arith

not_deep : (text : List ℕ) (n : List Token) (b : List ℕ) → NestsTooDeep text → AreTokensOf text n b → ⊥
not_deep text n b x y = y.shallow (subst IsTooDeep (cut_unique text x.tokens n x.starts b x.cut y.cut).0 x.deep)

not_misfit : (text : List ℕ) (at : ℕ) (n : List Token) (g : Form) → IsMisfitAt text at → Parses text n g → ⊥
not_misfit text at n g x y =
    x.misfit.none g (subst (λ t. IsCond t g) (same_tokens text n x.tokens y.starts x.starts y.are_tokens x.are_tokens)
    y.cond)

not_both : (b : Bool) → b ≡ true → b ≡ false → ⊥
not_both b h k = false≢true (sym k ∙ h)

not_list : (text : List ℕ) (n : List Token) (g : Form) → HasLongList text → Parses text n g →
    has_long_list g ≡ false → ⊥
not_list text n g x y short =
    not_both (has_long_list g) (ap has_long_list (parses_form text n x.tokens g x.form y x.parses) ∙ x.long) short

not_cons : (p : List ℕ) (others found : List (List ℕ)) → found ≡ p ∷ others → found ≡ [] → ⊥
not_cons p others found h k = cc

not_name : (text : List ℕ) (names : Pairs (List ℕ)) (p : List ℕ) (n : List Token) (g : Form) →
    LacksName text names p → Parses text n g → not_given names (name_placeholders text n) ≡ [] → ⊥
not_name text names p n g x y none =
    not_cons p x.others (not_given names (name_placeholders text n))
    (ap (λ t. not_given names (name_placeholders text t)) (parses_tokens text n x.tokens g x.form y x.parses) ∙
    x.first) none

not_value : (text : List ℕ) (names : Pairs (List ℕ)) (values : Pairs AttrValue) (p : List ℕ) (n : List Token)
    (g : Form) → LacksValue text names values p → Parses text n g → not_given values (value_placeholders text n) ≡ []
    → ⊥
not_value text names values p n g x y none =
    not_cons p x.others (not_given values (value_placeholders text n))
    (ap (λ t. not_given values (value_placeholders text t)) (parses_tokens text n x.tokens g x.form y x.parses) ∙
    x.first) none

pub not_refused : (text : List ℕ) (names : Pairs (List ℕ)) (values : Pairs AttrValue) (c : Condition)
    (why : CondFault) → Reads text names values c → Refuses text names values why → why ≡ fault.Memory
not_refused text names values c fault.Memory x r = refl
not_refused text names values c fault.TooLong x r = absurd (not_long text r x.parses.are_tokens.short)
not_refused text names values c (fault.BadToken at) x r =
    absurd (cut_not_bad text x.tokens x.parses.starts at x.parses.are_tokens.cut r.1)
not_refused text names values c fault.TooDeep x r =
    absurd (not_deep text x.tokens x.parses.starts r x.parses.are_tokens)
not_refused text names values c (fault.Syntax at) x r = absurd (not_misfit text at x.tokens x.form r x.parses)
not_refused text names values c fault.TooManyOperands x r = absurd (not_list text x.tokens x.form r x.parses x.lists)
not_refused text names values c (fault.UnknownName p) x r =
    absurd (not_name text names p x.tokens x.form r x.parses x.names_given)
not_refused text names values c (fault.UnknownValue p) x r =
    absurd (not_value text names values p x.tokens x.form r x.parses x.values_given)

-- Two refusals of one kind are the same.
misfit_same : (text : List ℕ) (a b : ℕ) → IsMisfitAt text a → IsMisfitAt text b → a ≡ b
misfit_same text a b x y =
    let cut = cut_unique text x.tokens y.tokens x.starts y.starts x.are_tokens.cut y.are_tokens.cut in
    let place : x.place ≡ y.place = misfit_unique y.tokens x.place y.place (subst (λ t. IsMisfit t x.place) cut.0
    x.misfit) y.misfit in
    x.offset ∙ ap (λ i. get_or x.starts i (length text)) place ∙ ap (λ s. get_or s y.place (length text)) cut.1 ∙
    sym y.offset

firsts_same : (p q : List ℕ) (m n found : List (List ℕ)) → found ≡ p ∷ m → found ≡ q ∷ n → p ≡ q
firsts_same p q m n found h k = cc

name_same : (text : List ℕ) (names : Pairs (List ℕ)) (p q : List ℕ) → LacksName text names p →
    LacksName text names q → p ≡ q
name_same text names p q x y =
    firsts_same p q x.others y.others (not_given names (name_placeholders text x.tokens)) x.first
    (ap (λ t. not_given names (name_placeholders text t)) (parses_tokens text x.tokens y.tokens x.form y.form x.parses
    y.parses) ∙ y.first)

value_same : (text : List ℕ) (names : Pairs (List ℕ)) (values : Pairs AttrValue) (p q : List ℕ) →
    LacksValue text names values p → LacksValue text names values q → p ≡ q
value_same text names values p q x y =
    firsts_same p q x.others y.others (not_given values (value_placeholders text x.tokens)) x.first
    (ap (λ t. not_given values (value_placeholders text t)) (parses_tokens text x.tokens y.tokens x.form y.form
    x.parses y.parses) ∙ y.first)

too_long_alone : (text : List ℕ) (names : Pairs (List ℕ)) (values : Pairs AttrValue) (why : CondFault) →
    Refuses text names values fault.TooLong → Refuses text names values why → why ≢ fault.Memory → fault.TooLong ≡ why
too_long_alone text names values fault.Memory x y k = absurd (k refl)
too_long_alone text names values fault.TooLong x y k = refl
too_long_alone text names values (fault.BadToken at') x y k = absurd (not_long text x y.0)
too_long_alone text names values fault.TooDeep x y k = absurd (not_long text x y.short)
too_long_alone text names values (fault.Syntax at') x y k = absurd (not_long text x y.are_tokens.short)
too_long_alone text names values fault.TooManyOperands x y k = absurd (not_long text x y.parses.are_tokens.short)
too_long_alone text names values (fault.UnknownName p') x y k = absurd (not_long text x y.parses.are_tokens.short)
too_long_alone text names values (fault.UnknownValue p') x y k = absurd (not_long text x y.parses.are_tokens.short)

bad_token_alone : (text : List ℕ) (names : Pairs (List ℕ)) (values : Pairs AttrValue) (at : ℕ) (why : CondFault) →
    Refuses text names values (fault.BadToken at) → Refuses text names values why → why ≢ fault.Memory →
    (fault.BadToken at) ≡ why
bad_token_alone text names values at fault.Memory x y k = absurd (k refl)
bad_token_alone text names values at fault.TooLong x y k = absurd (not_long text y x.0)
bad_token_alone text names values at (fault.BadToken at') x y k = ap fault.BadToken (place_unique text at at' x.1 y.1)
bad_token_alone text names values at fault.TooDeep x y k = absurd (cut_not_bad text y.tokens y.starts at y.cut x.1)
bad_token_alone text names values at (fault.Syntax at') x y k =
    absurd (cut_not_bad text y.tokens y.starts at y.are_tokens.cut x.1)
bad_token_alone text names values at fault.TooManyOperands x y k =
    absurd (cut_not_bad text y.tokens y.parses.starts at y.parses.are_tokens.cut x.1)
bad_token_alone text names values at (fault.UnknownName p') x y k =
    absurd (cut_not_bad text y.tokens y.parses.starts at y.parses.are_tokens.cut x.1)
bad_token_alone text names values at (fault.UnknownValue p') x y k =
    absurd (cut_not_bad text y.tokens y.parses.starts at y.parses.are_tokens.cut x.1)

too_deep_alone : (text : List ℕ) (names : Pairs (List ℕ)) (values : Pairs AttrValue) (why : CondFault) →
    Refuses text names values fault.TooDeep → Refuses text names values why → why ≢ fault.Memory → fault.TooDeep ≡ why
too_deep_alone text names values fault.Memory x y k = absurd (k refl)
too_deep_alone text names values fault.TooLong x y k = absurd (not_long text y x.short)
too_deep_alone text names values (fault.BadToken at') x y k = absurd (cut_not_bad text x.tokens x.starts at' x.cut y.1)
too_deep_alone text names values fault.TooDeep x y k = refl
too_deep_alone text names values (fault.Syntax at') x y k = absurd (not_deep text y.tokens y.starts x y.are_tokens)
too_deep_alone text names values fault.TooManyOperands x y k =
    absurd (not_deep text y.tokens y.parses.starts x y.parses.are_tokens)
too_deep_alone text names values (fault.UnknownName p') x y k =
    absurd (not_deep text y.tokens y.parses.starts x y.parses.are_tokens)
too_deep_alone text names values (fault.UnknownValue p') x y k =
    absurd (not_deep text y.tokens y.parses.starts x y.parses.are_tokens)

syntax_alone : (text : List ℕ) (names : Pairs (List ℕ)) (values : Pairs AttrValue) (at : ℕ) (why : CondFault) →
    Refuses text names values (fault.Syntax at) → Refuses text names values why → why ≢ fault.Memory →
    (fault.Syntax at) ≡ why
syntax_alone text names values at fault.Memory x y k = absurd (k refl)
syntax_alone text names values at fault.TooLong x y k = absurd (not_long text y x.are_tokens.short)
syntax_alone text names values at (fault.BadToken at') x y k =
    absurd (cut_not_bad text x.tokens x.starts at' x.are_tokens.cut y.1)
syntax_alone text names values at fault.TooDeep x y k = absurd (not_deep text x.tokens x.starts y x.are_tokens)
syntax_alone text names values at (fault.Syntax at') x y k = ap fault.Syntax (misfit_same text at at' x y)
syntax_alone text names values at fault.TooManyOperands x y k = absurd (not_misfit text at y.tokens y.form x y.parses)
syntax_alone text names values at (fault.UnknownName p') x y k = absurd (not_misfit text at y.tokens y.form x y.parses)
syntax_alone text names values at (fault.UnknownValue p') x y k = absurd (not_misfit text at y.tokens y.form x y.parses)

too_many_alone : (text : List ℕ) (names : Pairs (List ℕ)) (values : Pairs AttrValue) (why : CondFault) →
    Refuses text names values fault.TooManyOperands → Refuses text names values why → why ≢ fault.Memory →
    fault.TooManyOperands ≡ why
too_many_alone text names values fault.Memory x y k = absurd (k refl)
too_many_alone text names values fault.TooLong x y k = absurd (not_long text y x.parses.are_tokens.short)
too_many_alone text names values (fault.BadToken at') x y k =
    absurd (cut_not_bad text x.tokens x.parses.starts at' x.parses.are_tokens.cut y.1)
too_many_alone text names values fault.TooDeep x y k =
    absurd (not_deep text x.tokens x.parses.starts y x.parses.are_tokens)
too_many_alone text names values (fault.Syntax at') x y k = absurd (not_misfit text at' x.tokens x.form y x.parses)
too_many_alone text names values fault.TooManyOperands x y k = refl
too_many_alone text names values (fault.UnknownName p') x y k =
    absurd (not_list text y.tokens y.form x y.parses y.lists)
too_many_alone text names values (fault.UnknownValue p') x y k =
    absurd (not_list text y.tokens y.form x y.parses y.lists)

unknown_name_alone : (text : List ℕ) (names : Pairs (List ℕ)) (values : Pairs AttrValue) (p : List ℕ)
    (why : CondFault) → Refuses text names values (fault.UnknownName p) → Refuses text names values why →
    why ≢ fault.Memory → (fault.UnknownName p) ≡ why
unknown_name_alone text names values p fault.Memory x y k = absurd (k refl)
unknown_name_alone text names values p fault.TooLong x y k = absurd (not_long text y x.parses.are_tokens.short)
unknown_name_alone text names values p (fault.BadToken at') x y k =
    absurd (cut_not_bad text x.tokens x.parses.starts at' x.parses.are_tokens.cut y.1)
unknown_name_alone text names values p fault.TooDeep x y k =
    absurd (not_deep text x.tokens x.parses.starts y x.parses.are_tokens)
unknown_name_alone text names values p (fault.Syntax at') x y k =
    absurd (not_misfit text at' x.tokens x.form y x.parses)
unknown_name_alone text names values p fault.TooManyOperands x y k =
    absurd (not_list text x.tokens x.form y x.parses x.lists)
unknown_name_alone text names values p (fault.UnknownName p') x y k =
    ap fault.UnknownName (name_same text names p p' x y)
unknown_name_alone text names values p (fault.UnknownValue p') x y k =
    absurd (not_name text names p y.tokens y.form x y.parses y.names_given)

unknown_value_alone : (text : List ℕ) (names : Pairs (List ℕ)) (values : Pairs AttrValue) (p : List ℕ)
    (why : CondFault) → Refuses text names values (fault.UnknownValue p) → Refuses text names values why →
    why ≢ fault.Memory → (fault.UnknownValue p) ≡ why
unknown_value_alone text names values p fault.Memory x y k = absurd (k refl)
unknown_value_alone text names values p fault.TooLong x y k = absurd (not_long text y x.parses.are_tokens.short)
unknown_value_alone text names values p (fault.BadToken at') x y k =
    absurd (cut_not_bad text x.tokens x.parses.starts at' x.parses.are_tokens.cut y.1)
unknown_value_alone text names values p fault.TooDeep x y k =
    absurd (not_deep text x.tokens x.parses.starts y x.parses.are_tokens)
unknown_value_alone text names values p (fault.Syntax at') x y k =
    absurd (not_misfit text at' x.tokens x.form y x.parses)
unknown_value_alone text names values p fault.TooManyOperands x y k =
    absurd (not_list text x.tokens x.form y x.parses x.lists)
unknown_value_alone text names values p (fault.UnknownName p') x y k =
    absurd (not_name text names p' x.tokens x.form y x.parses x.names_given)
unknown_value_alone text names values p (fault.UnknownValue p') x y k =
    ap fault.UnknownValue (value_same text names values p p' x y)

pub refusal_unique : (text : List ℕ) (names : Pairs (List ℕ)) (values : Pairs AttrValue) (why other : CondFault) →
    Refuses text names values why → Refuses text names values other → why ≢ fault.Memory → other ≢ fault.Memory →
    why ≡ other
refusal_unique text names values fault.Memory other x y h k = absurd (h refl)
refusal_unique text names values fault.TooLong other x y h k = too_long_alone text names values other x y k
refusal_unique text names values (fault.BadToken at) other x y h k = bad_token_alone text names values at other x y k
refusal_unique text names values fault.TooDeep other x y h k = too_deep_alone text names values other x y k
refusal_unique text names values (fault.Syntax at) other x y h k = syntax_alone text names values at other x y k
refusal_unique text names values fault.TooManyOperands other x y h k = too_many_alone text names values other x y k
refusal_unique text names values (fault.UnknownName p) other x y h k =
    unknown_name_alone text names values p other x y k
refusal_unique text names values (fault.UnknownValue p) other x y h k =
    unknown_value_alone text names values p other x y k

-- what a call answers, where what it answers is right
pub gives : (text seen : List ℕ) (names : Pairs (List ℕ)) (values : Pairs AttrValue) (r : Result Cond CondFault) →
    seen ≡ text → IfOk r (λ c. Reads seen names values (condition_of c)) →
    IfErr r (λ why. Refuses seen names values why) → (c : Condition) → Reads text names values c → Gives r c
gives text seen names values (Ok found) e ok refused c is = reads_unique text names values (condition_of found) c
    (subst (λ x. Reads x names values (condition_of found)) e ok) is
gives text seen names values (Err why) e ok refused c is =
    not_refused text names values c why is (subst (λ x. Refuses x names values why) e refused)

pub gives_fault : (text seen : List ℕ) (names : Pairs (List ℕ)) (values : Pairs AttrValue) (r : Result Cond CondFault)
    → seen ≡ text → IfOk r (λ c. Reads seen names values (condition_of c)) →
    IfErr r (λ why. Refuses seen names values why) → (wanted : CondFault) → Refuses text names values wanted →
    wanted ≢ fault.Memory → GivesFault r wanted
gives_fault text seen names values (Ok found) e ok refused wanted is other =
    other (not_refused text names values (condition_of found) wanted
    (subst (λ x. Reads x names values (condition_of found)) e ok) is)
gives_fault text seen names values (Err why) e ok refused wanted is other =
    λ k. refusal_unique text names values why wanted (subst (λ x. Refuses x names values why) e refused) is k other

-- The refusals and the condition, as the steps of the reading find them.
pub syntax_at : (text : List ℕ) (tokens seen again : List Token) (starts looked : List ℕ) (deep : Bool) (place at : ℕ)
    → length text ≤ 4096 → IsCut text tokens starts → seen ≡ tokens → deep ≡ false → (IsTrue deep ↔ IsTooDeep seen) →
    again ≡ tokens → IsMisfit again place → looked ≡ starts →
    at ≡ get_or looked place (length text) → IsMisfitAt text at
syntax_at text tokens seen again starts looked deep place at short cut s d iff a misfit l offset = record {
  tokens = tokens;
  starts = starts;
  are_tokens = record {
    short = short;
    cut = cut;
    shallow = λ h. false≢true (sym d ∙
        iff.1 (subst IsTooDeep (sym s) h));
  };
  place = place;
  misfit = subst (λ t. IsMisfit t place) a misfit;
  offset = offset ∙ ap (λ x. get_or x place (length text)) l;
}

pub parses_ranges : (text : List ℕ) (tokens seen : List Token) (form : Form) → Parses text tokens form →
    seen ≡ tokens → list_all (has_range text) seen ≡ true
parses_ranges text tokens seen form x e = ap (list_all (has_range text)) e ∙
    cut_ranges text tokens x.starts x.are_tokens.cut

first_of : (xs : List (List ℕ)) (p : List ℕ) → slice_get xs 0 ≡ Some p → (others : List (List ℕ)) × (xs ≡ p ∷ others)
first_of [] p e = cc
first_of (x ∷ xs) p e = (xs, cc)

pub lacks_name : (text : List ℕ) (names : Pairs (List ℕ)) (tokens seen : List Token) (form : Form) (long : Bool)
    (p q : List ℕ) → Parses text tokens form → long ≡ has_long_list form → long ≡ false → seen ≡ tokens →
    slice_get (not_given names (name_placeholders text seen)) 0 ≡ Some p → q ≡ p → LacksName text names q
lacks_name text names tokens seen form long p q x l f e first same =
    let r = first_of (not_given names (name_placeholders text seen)) p first in
    record {
      tokens = tokens;
      form = form;
      parses = x;
      lists = sym l ∙ f;
      others = r.0;
      first = ap (λ t. not_given names (name_placeholders text t)) (sym e) ∙ r.1 ∙ ap (λ z. z ∷ r.0) (sym same);
    }

pub lacks_value : (text : List ℕ) (names : Pairs (List ℕ)) (values : Pairs AttrValue) (tokens seen again : List Token)
    (form : Form) (long : Bool) (p q : List ℕ) → Parses text tokens form → long ≡ has_long_list form → long ≡ false →
    seen ≡ tokens → not_given names (name_placeholders text seen) ≡ [] → again ≡ tokens →
    slice_get (not_given values (value_placeholders text again)) 0 ≡ Some p → q ≡ p → LacksValue text names values q
lacks_value text names values tokens seen again form long p q x l f e given a first same =
    let r = first_of (not_given values (value_placeholders text again)) p first in
    record {
      tokens = tokens;
      form = form;
      parses = x;
      lists = sym l ∙ f;
      names_given = ap (λ t. not_given names (name_placeholders text t)) (sym e) ∙ given;
      others = r.0;
      first = ap (λ t. not_given values (value_placeholders text t)) (sym a) ∙ r.1 ∙ ap (λ z. z ∷ r.0) (sym same);
    }

pub all_known : (text : List ℕ) (names : Pairs (List ℕ)) (values : Pairs AttrValue) (tokens seen again : List Token)
    (form : Form) → Parses text tokens form → seen ≡ tokens → not_given names (name_placeholders text seen) ≡ [] →
    again ≡ tokens → not_given values (value_placeholders text again) ≡ [] →
    form_passes (is_known text names values) form ≡ true
all_known text names values tokens seen again form x e m a v =
    cond_passes (is_known text names values) tokens form x.cond
    (known_tokens text names values tokens (parses_ranges text tokens tokens form x refl)
    (ap (λ t. not_given names (name_placeholders text t)) (sym e) ∙
    m) (ap (λ t. not_given values (value_placeholders text t)) (sym a) ∙ v))

pub reads_this : (text : List ℕ) (names : Pairs (List ℕ)) (values : Pairs AttrValue) (tokens seen again : List Token)
    (form : Form) (long : Bool) (c : Condition) → Parses text tokens form → long ≡ has_long_list form → long ≡ false →
    seen ≡ tokens → not_given names (name_placeholders text seen) ≡ [] →
    again ≡ tokens → not_given values (value_placeholders text again) ≡ [] → c ≡ resolved text names values form →
    Reads text names values c
reads_this text names values tokens seen again form long c x l f e m a v means = record {
  tokens = tokens;
  form = form;
  parses = x;
  lists = sym l ∙ f;
  names_given = ap (λ t. not_given names (name_placeholders text t)) (sym e) ∙ m;
  values_given = ap (λ t. not_given values (value_placeholders text t)) (sym a) ∙ v;
  means = means;
}
