-- A list takes the entries in the order of their keys.
use Rattle.std.proofs.Common.{◌≡◌, ℕ, ◌+◌, Bool, true, false, cond, List, [], ◌∷◌, ◌++◌, length, Option, Some, None, refl, sym, ◌∙◌, ap, subst, arith, append_assoc, length-append}
use Rattle.std.specs.Prelude.{T, option_map}
use Rattle.std.specs.FinMap.{is_sorted}
use Rattle.std.proofs.lemmas.List.{append-nil}
use Rattle.fsd_bytes.specs.declared.key.Key.{Key}
use Rattle.fsd_bytes.specs.declared.pattern.Pattern.{Pattern}
use Rattle.fsd_bytes.specs.Keys.{fits, key_cmp}
use Rattle.fsd_formats.specs.declared.entry.Entry.{Entry}
use Rattle.fsd_files.specs.Answers.{entry_after}
use Rattle.fsd_files.specs.Files.{Files}
use Rattle.fsd_files.specs.Kept.{Lists}
use Rattle.fsd_files.specs.declared.reply.Reply.TheVariants.{Found}
use Rattle.fsd_files.proofs.FreshLaws.{of_T}
use Rattle.scrub.specs.Walk.{last_key}
use Rattle.scrub.proofs.WalkLaws.{Ascend, ascend_listed, behind_front, head_of, last_more}
use Rattle.volume_turns.specs.Listing.{AreListed, fitting}

-- ---- one entry more

by_bool : (b : Bool) (e : Entry) (xs ys : List Entry) → cond b (e ∷ (xs ++ ys)) (xs ++ ys) ≡ cond b (e ∷ xs) xs ++ ys
by_bool true e xs ys = refl
by_bool false e xs ys = refl

pub fitting_more : (pattern : Pattern) (front more : List Entry) → fitting pattern (front ++ more) ≡ fitting pattern front ++ fitting pattern more
fitting_more pattern [] more = refl
fitting_more pattern (b ∷ bs) more =
    ap (λ (x : List Entry). cond (fits pattern b.key.name) (b ∷ x) x) (fitting_more pattern bs more) ∙ by_bool (fits pattern b.key.name) b (fitting pattern bs) (fitting pattern more)

module _ (pattern : Pattern) (s : Files) (entries : List Entry) (lists : Lists s entries) (sorted : T (is_sorted key_cmp s)) where
  module _ (count : ℕ) (last : Option Key) (listed : List Entry) (so_far : AreListed pattern entries count last listed) where
    next_is : entry_after last entries ≡ head_of so_far.rest
    next_is = ap (λ (o : Option Key). entry_after o entries) so_far.ends ∙ ap (λ (x : List Entry). entry_after (last_key so_far.front) x) so_far.all
        ∙ behind_front so_far.front so_far.rest (subst Ascend so_far.all (ascend_listed s entries lists (of_T (is_sorted key_cmp s) sorted)))

    some_rest : (rest : List Entry) (e : Entry) → head_of rest ≡ Some e → (more : List Entry) × (rest ≡ e ∷ more)
    some_rest [] e is = absurd (cc is)
    some_rest (r ∷ rest) e is = (rest, cc is)

    none_rest : (rest : List Entry) → head_of rest ≡ None → rest ≡ []
    none_rest [] is = refl
    none_rest (r ∷ rest) is = absurd (cc is)

    pub listed_more : (e : Entry) → Found (entry_after last entries) ≡ Found (Some e) → (key : Key) → key ≡ e.key → (now : List Entry) → now ≡ listed ++ fitting pattern (e ∷ []) → AreListed pattern entries (count + 1) (Some key) now
    listed_more e looks key is now put =
        let found : entry_after last entries ≡ Some e = cc looks in
        let parts = some_rest so_far.rest e (sym next_is ∙ found) in
        record {
          front = so_far.front ++ e ∷ [];
          rest = parts.0;
          all = so_far.all ∙ ap (λ (x : List Entry). so_far.front ++ x) parts.1 ∙ sym (append_assoc so_far.front (e ∷ []) parts.0);
          met = let sum = length-append so_far.front (e ∷ []) in let met = so_far.met in omega (arith, sum, met);
          ends = ap (λ (k : Key). Some k) is ∙ sym (ap (λ (o : Option Entry). option_map (λ x. x.key) o) (last_more so_far.front None e));
          fit = put ∙ ap (λ (x : List Entry). x ++ fitting pattern (e ∷ [])) so_far.fit ∙ sym (fitting_more pattern so_far.front (e ∷ []));
        }

    whole : so_far.rest ≡ [] → listed ≡ fitting pattern entries
    whole none = so_far.fit ∙ ap (fitting pattern) (sym (so_far.all ∙ ap (λ (x : List Entry). so_far.front ++ x) none ∙ append-nil so_far.front))

    -- none is left
    pub listed_all : Found (entry_after last entries) ≡ Found None → listed ≡ fitting pattern entries
    listed_all looks = let found : entry_after last entries ≡ None = cc looks in whole (none_rest so_far.rest (sym next_is ∙ found))

    -- as many were met as there are
    pub listed_counted : count ≡ length entries → listed ≡ fitting pattern entries
    listed_counted is = whole (no_more so_far.rest (let sum = ap (λ (x : List Entry). length x) so_far.all in let both = length-append so_far.front so_far.rest in let met = so_far.met in omega (arith, is, sum, both, met)))
      where
        no_more : (rest : List Entry) → length rest ≡ 0 → rest ≡ []
        no_more [] none = refl
        no_more (r ∷ rest) none = absurd (cc none)

pub listed_none : (pattern : Pattern) (entries : List Entry) → AreListed pattern entries 0 None []
listed_none pattern entries = record { front = []; rest = entries; all = refl; met = refl; ends = refl; fit = refl }
