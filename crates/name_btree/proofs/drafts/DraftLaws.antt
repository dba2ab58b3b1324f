-- Pages that are to be written, over those that there are.
use Rattle.std.proofs.Common.{◌≡◌, ℕ, zero, suc, ◌+◌, ◌<◌, ◌≤◌, ◌^◌, Bool, true, false, cond, ◌||◌, List, [], ◌∷◌, ◌++◌, length, take, drop, get_or, Option, Some, None, refl, sym, ap, subst, ◌∙◌, arith, length-append, length-set, take-append-drop, get_or-set_other}
use Rattle.std.specs.Prelude.{◌==◌, IsSome, slice_set}
use Rattle.std.specs.List.{AllByRecursion}
use Rattle.std.specs.Option.{option_or}
use Rattle.std.proofs.lemmas.Bool.{or_left, or_parts, eqb-true, eq-eqb}
use Rattle.std.proofs.lemmas.List.{take_more}
use Rattle.name_btree.proofs.drafts.ApartLaws.{apart_parts}
use Rattle.fsd_forest.proofs.KeepLaws.{in_left}
use Rattle.run_table.specs.Space.{contains, all_differ}
use Rattle.fsd_formats.specs.NamePage.{Content, read_page}
use Rattle.fsd_table.specs.Pages.{page_at}
use Rattle.fsd_table.proofs.BoundLaws.{all_append}
use Rattle.name_page.specs.Pages.{Step, is_spare, is_one_of, with_one, with_page, with_spare, with_taken, changes, IsReached}
use Rattle.name_page.specs.Reading.{content_in}
use Rattle.name_page.proofs.ContentLaws.{content_is}
use Rattle.name_page.proofs.MarkLaws.{one_count}
use Rattle.name_btree.specs.declared.draft.Sheet.{Sheet}
use Rattle.name_btree.specs.Draft.{drafted, committed, freed, last_sheet, HasSheet, IsSheet, AreSheets, MayGo, IsDrafted}
use Rattle.name_btree.proofs.drafts.SetLaws.{set_at, at_other}

-- ---- lists

pub each_or : {X : Type 0} (P : X → Type 0) (xs : List X) (i : ℕ) (d : X) → i < length xs → AllByRecursion P xs → P (get_or xs i d)
each_or P [] i d low a = absurd (omega arith)
each_or P (x ∷ xs) zero d low a = a.0
each_or P (x ∷ xs) (suc i) d low a = each_or P xs i d (omega arith) a.1

pub take_count : {X : Type 0} (xs : List X) (i : ℕ) → length (take i xs) ≤ i
take_count xs zero = omega arith
take_count [] (suc i) = omega arith
take_count (x ∷ xs) (suc i) = omega (arith, take_count xs i)

-- of pages that differ, none stands before itself
pub none_before : (pages : List ℕ) (i : ℕ) → i < length pages → all_differ pages ≡ true → contains (take i pages) (get_or pages i 0) ≡ false
none_before pages i low apart =
    let p : ℕ = get_or pages i 0 in
    let parts : take (i + 1) pages ++ drop (i + 1) pages ≡ pages = take-append-drop (i + 1) pages in
    let some = (apart_parts (take (i + 1) pages) (drop (i + 1) pages) (ap all_differ parts ∙ apart)).first in
    let last = apart_parts (take i pages) (p ∷ []) (ap all_differ (sym (take_more pages i 0 low)) ∙ some) in
    by (contains (take i pages) p) refl (last.outside p)
  where
    by : (b : Bool) → contains (take i pages) (get_or pages i 0) ≡ b → (contains (take i pages) (get_or pages i 0) ≡ true → contains (get_or pages i 0 ∷ []) (get_or pages i 0) ≡ false) → b ≡ false
    by false is out = refl
    by true is out = absurd (let no = out is in let yes = or_left (get_or pages i 0 == get_or pages i 0) false (eq-eqb (get_or pages i 0) (get_or pages i 0) refl) in cc)

-- ---- pages that stay reached

or_more : (a b c : Bool) → (b ≡ true → c ≡ true) → (a || b) ≡ true → (a || c) ≡ true
or_more true b c f h = refl
or_more false b c f h = f h

one_kept : (pages : List ℕ) (page q : ℕ) → is_one_of pages q ≡ true → is_one_of (with_one pages page) q ≡ true
one_kept pages page q h = by (is_one_of pages page)
  where
    by : (b : Bool) → is_one_of (cond b pages (pages ++ page ∷ [])) q ≡ true
    by true = h
    by false = in_left pages (page ∷ []) q h

reached_page : (step : Step) (page : ℕ) (bytes : List ℕ) (q : ℕ) → IsReached step q → IsReached (with_page page bytes step) q
reached_page step page bytes q h =
    let Low : ℕ → Type 0 = λ (n : ℕ). q < n in
    (subst Low (sym (length-set step.images page bytes)) h.0, or_more (is_one_of step.reached q) (is_one_of step.changed q) (is_one_of (with_one step.changed page) q) (one_kept step.changed page q) h.1)

-- ---- sheets that are written

pub reached_committed : (sheets : List Sheet) (step : Step) (q : ℕ) → IsReached step q → IsReached (committed sheets step) q
reached_committed [] step q h = h
reached_committed (s ∷ sheets) step q h = reached_committed sheets (with_page s.page s.image step) q (reached_page step s.page s.image q h)

pub committed_push : (sheets : List Sheet) (s : Sheet) (step : Step) → committed (sheets ++ s ∷ []) step ≡ with_page s.page s.image (committed sheets step)
committed_push [] s step = refl
committed_push (x ∷ sheets) s step = committed_push sheets s (with_page x.page x.image step)

pub committed_images : (sheets : List Sheet) (step : Step) → (committed sheets step).images ≡ drafted sheets step.images
committed_images [] step = refl
committed_images (s ∷ sheets) step = committed_images sheets (with_page s.page s.image step)

pub committed_spares : (sheets : List Sheet) (step : Step) → (committed sheets step).spares ≡ step.spares
committed_spares [] step = refl
committed_spares (s ∷ sheets) step = committed_spares sheets (with_page s.page s.image step)

committed_most : (sheets : List Sheet) (step : Step) → (committed sheets step).most_changed ≡ step.most_changed
committed_most [] step = refl
committed_most (s ∷ sheets) step = committed_most sheets (with_page s.page s.image step)

pub committed_count : (sheets : List Sheet) (step : Step) → length (committed sheets step).changed ≤ length step.changed + length sheets
committed_count [] step = omega arith
committed_count (s ∷ sheets) step = omega (arith, committed_count sheets (with_page s.page s.image step), one_count step.changed s.page)

-- one more may be changed
pub still_more : (sheets : List Sheet) (step : Step) (i : ℕ) → i < length sheets → length sheets ≤ changes step → 0 < changes (committed (take i sheets) step)
still_more sheets step i low more = omega (arith, committed_count (take i sheets) step, committed_most (take i sheets) step, take_count sheets i)

-- ---- pages that become spare

pub freed_push : (pages : List ℕ) (page : ℕ) (step : Step) → freed (pages ++ page ∷ []) step ≡ with_spare page (freed pages step)
freed_push [] page step = refl
freed_push (p ∷ pages) page step = freed_push pages page (with_spare p step)

pub reached_freed : (pages : List ℕ) (step : Step) (q : ℕ) → IsReached step q → IsReached (freed pages step) q
reached_freed [] step q h = h
reached_freed (p ∷ pages) step q h = reached_freed pages (with_spare p step) q h

pub freed_images : (pages : List ℕ) (step : Step) → (freed pages step).images ≡ step.images
freed_images [] step = refl
freed_images (p ∷ pages) step = freed_images pages (with_spare p step)

pub freed_used : (pages : List ℕ) (step : Step) (q : ℕ) → contains pages q ≡ false → is_spare step.spares q ≡ false → is_spare (freed pages step).spares q ≡ false
freed_used [] step q none used = used
freed_used (p ∷ pages) step q none used =
    let parts = or_parts (p == q) (contains pages q) none in
    freed_used pages (with_spare p step) q parts.1 (get_or-set_other step.spares p q true false (λ e. let yes = eq-eqb q q refl in let no : (q == q) ≡ false = ap (λ (n : ℕ). n == q) e ∙ parts.0 in cc) ∙ used)

-- pages that were written may go
pub may_go : (sheets : List Sheet) (step : Step) (pages : List ℕ) → AllByRecursion (MayGo step) pages → AllByRecursion (MayGo (committed sheets step)) pages
may_go sheets step [] a = tt
may_go sheets step (p ∷ pages) a =
    let first : MayGo (committed sheets step) p = record {
      reached = reached_committed sheets step p a.0.reached;
      used = ap (λ (spares : List Bool). is_spare spares p) (committed_spares sheets step) ∙ a.0.used;
      inner = a.0.inner;
    } in
    (first, may_go sheets step pages a.1)

-- ---- the last sheet of a page

pub last_push : (page : ℕ) (sheets : List Sheet) (s : Sheet) → last_sheet page (sheets ++ s ∷ []) ≡ cond (s.page == page) (Some s.image) (last_sheet page sheets)
last_push page [] s = refl
last_push page (x ∷ sheets) s =
    ap (λ (o : Option (List ℕ)). option_or o (cond (x.page == page) (Some x.image) None)) (last_push page sheets s) ∙ by (s.page == page)
  where
    by : (b : Bool) → option_or (cond b (Some s.image) (last_sheet page sheets)) (cond (x.page == page) (Some x.image) None) ≡ cond b (Some s.image) (option_or (last_sheet page sheets) (cond (x.page == page) (Some x.image) None))
    by true = refl
    by false = refl

pub push_own : (sheets : List Sheet) (s : Sheet) → HasSheet (sheets ++ s ∷ []) s.page
push_own sheets s = subst (λ (o : Option (List ℕ)). IsSome o) (sym (last_push s.page sheets s ∙ ap (λ (b : Bool). cond b (Some s.image) (last_sheet s.page sheets)) (eq-eqb s.page s.page refl))) refl

pub push_stay : (sheets : List Sheet) (s : Sheet) (page : ℕ) → HasSheet sheets page → HasSheet (sheets ++ s ∷ []) page
push_stay sheets s page has = subst (λ (o : Option (List ℕ)). IsSome o) (sym (last_push page sheets s)) (by (s.page == page))
  where
    by : (b : Bool) → IsSome (cond b (Some s.image) (last_sheet page sheets))
    by true = refl
    by false = has

-- what a page has, by its last sheet
abbrev pub by_sheet : ℕ → List (List ℕ) → Option (List ℕ) → Option Content
by_sheet page pages None = page_at pages page
by_sheet page pages (Some bytes) = read_page page (length pages) bytes

pub drafted_at : (sheets : List Sheet) (pages : List (List ℕ)) (page : ℕ) → page < length pages → page_at (drafted sheets pages) page ≡ by_sheet page pages (last_sheet page sheets)
drafted_at [] pages page low = refl
drafted_at (s ∷ sheets) pages page low =
    let Low : ℕ → Type 0 = λ (n : ℕ). page < n in
    drafted_at sheets (slice_set pages s.page s.image) page (subst Low (sym (length-set pages s.page s.image)) low) ∙ by (last_sheet page sheets)
  where
    here : (b : Bool) → (s.page == page) ≡ b → page_at (slice_set pages s.page s.image) page ≡ by_sheet page pages (cond b (Some s.image) None)
    here true is =
        let same : s.page ≡ page = eqb-true s.page page is in
        ap (λ (n : ℕ). page_at (slice_set pages n s.image) page) same ∙ set_at pages page s.image low
    here false is = at_other pages s.page page s.image (λ e. let yes = eq-eqb page page refl in let no : (page == page) ≡ false = ap (λ (n : ℕ). n == page) e ∙ is in cc)

    by : (o : Option (List ℕ)) → by_sheet page (slice_set pages s.page s.image) o ≡ by_sheet page pages (option_or o (cond (s.page == page) (Some s.image) None))
    by (Some bytes) = ap (λ (n : ℕ). read_page page n bytes) (length-set pages s.page s.image)
    by None = here (s.page == page) refl

pub sheet_is : (step : Step) (sheets : List Sheet) (page : ℕ) (bytes : List ℕ) → AreSheets step sheets → last_sheet page sheets ≡ Some bytes → IsSheet step (record { page = page; image = bytes })
sheet_is step [] page bytes a e = absurd cc
sheet_is step (s ∷ sheets) page bytes a e = by (last_sheet page sheets) refl (λ again. sheet_is step sheets page bytes a.1 again) e
  where
    here : (b : Bool) → (s.page == page) ≡ b → cond b (Some s.image) None ≡ Some bytes → IsSheet step (record { page = page; image = bytes })
    here false is h = absurd cc
    here true is h =
        let p : s.page ≡ page = eqb-true s.page page is in
        let i : s.image ≡ bytes = cc in
        let one : s ≡ record { page = page; image = bytes } = λ j. record { page = p j; image = i j } in
        subst (IsSheet step) one a.0

    by : (o : Option (List ℕ)) → last_sheet page sheets ≡ o → (last_sheet page sheets ≡ Some bytes → IsSheet step (record { page = page; image = bytes }))
        → option_or o (cond (s.page == page) (Some s.image) None) ≡ Some bytes → IsSheet step (record { page = page; image = bytes })
    by (Some c) is again h = again (is ∙ h)
    by None is again h = here (s.page == page) refl h

-- the bytes of a sheet have what its page is to have
pub sheet_has : (step : Step) (s : Sheet) → IsSheet step s → length step.images < 2 ^ 32 → (content_in s.image ≡ read_page s.page (length step.images) s.image) × IsSome (content_in s.image)
sheet_has step s is small =
    let low : s.page < 2 ^ 32 = below s.page (length step.images) is.reached.0 small in
    let same = by (read_page s.page (length step.images) s.image) refl is.accepted low in
    (same, subst (λ (o : Option Content). IsSome o) (sym same) is.accepted)
  where
    below : (page n : ℕ) → page < n → n < 2 ^ 32 → page < 2 ^ 32
    below page n a b = omega arith

    weaken : (n : ℕ) → n < 2 ^ 32 → n ≤ 2 ^ 32
    weaken n h = omega arith

    by : (o : Option Content) → read_page s.page (length step.images) s.image ≡ o → IsSome o → s.page < 2 ^ 32 → content_in s.image ≡ o
    by None e h low = absurd cc
    by (Some x) e h low = content_is s.page (length step.images) s.image x low (weaken (length step.images) small) e

-- ---- drafts over steps

pub sheets_kept : (old new : Step) (sheets : List Sheet) → ((q : ℕ) → IsReached old q → IsReached new q) → new.spares ≡ old.spares → length new.images ≡ length old.images → AreSheets old sheets → AreSheets new sheets
sheets_kept old new [] kept spares images a = tt
sheets_kept old new (s ∷ sheets) kept spares images a =
    let first : IsSheet new s = record {
      reached = kept s.page a.0.reached;
      used = ap (λ (x : List Bool). is_spare x s.page) spares ∙ a.0.used;
      accepted = subst (λ (n : ℕ). IsSome (read_page s.page n s.image)) (sym images) a.0.accepted;
    } in
    (first, sheets_kept old new sheets kept spares images a.1)

drafted_push : (sheets : List Sheet) (s : Sheet) (pages : List (List ℕ)) → drafted (sheets ++ s ∷ []) pages ≡ slice_set (drafted sheets pages) s.page s.image
drafted_push [] s pages = refl
drafted_push (x ∷ sheets) s pages = drafted_push sheets s (slice_set pages x.page x.image)

pub drafted_length : (sheets : List Sheet) (pages : List (List ℕ)) → length (drafted sheets pages) ≡ length pages
drafted_length [] pages = refl
drafted_length (s ∷ sheets) pages = drafted_length sheets (slice_set pages s.page s.image) ∙ length-set pages s.page s.image

pub drafted_more : (step : Step) (old new : List Sheet) (s : Sheet) (x : Content) → new ≡ old ++ s ∷ [] → AreSheets step old → IsReached step s.page → is_spare step.spares s.page ≡ false
    → read_page s.page (length step.images) s.image ≡ Some x → IsDrafted step old new s.page x
drafted_more step old new s x is a reached used read =
    let pages : List (List ℕ) = drafted old step.images in
    let Low : ℕ → Type 0 = λ (n : ℕ). s.page < n in
    let low : s.page < length pages = subst Low (sym (drafted_length old step.images)) reached.0 in
    let some : IsSome (read_page s.page (length step.images) s.image) = subst (λ (o : Option Content). IsSome o) (sym read) (is_some x) in
    let sheet : IsSheet step s = record { reached = reached; used = used; accepted = some } in
    let after : drafted new step.images ≡ slice_set pages s.page s.image = ap (λ (xs : List Sheet). drafted xs step.images) is ∙ drafted_push old s step.images in
    record {
      one = ap length is ∙ length-append old (s ∷ []);
      sheets = subst (AreSheets step) (sym is) (all_append (IsSheet step) old (s ∷ []) a (sheet, tt));
      content = ap (λ (p : List (List ℕ)). page_at p s.page) after ∙ set_at pages s.page s.image low ∙ ap (λ (n : ℕ). read_page s.page n s.image) (drafted_length old step.images) ∙ read;
      others = λ q differs. ap (λ (p : List (List ℕ)). page_at p q) after ∙ at_other pages s.page q s.image differs;
      over = λ images same.
          let under : List (List ℕ) = drafted old images in
          let within : s.page < length under = subst Low (sym (drafted_length old images ∙ same)) reached.0 in
          let then : drafted new images ≡ slice_set under s.page s.image = ap (λ (xs : List Sheet). drafted xs images) is ∙ drafted_push old s images in
          record {
            content = ap (λ (p : List (List ℕ)). page_at p s.page) then ∙ set_at under s.page s.image within ∙ ap (λ (n : ℕ). read_page s.page n s.image) (drafted_length old images ∙ same) ∙ read;
            others = λ q differs. ap (λ (p : List (List ℕ)). page_at p q) then ∙ at_other under s.page q s.image differs;
          };
      own = subst (λ (xs : List Sheet). HasSheet xs s.page) (sym is) (push_own old s);
      stay = λ q has. subst (λ (xs : List Sheet). HasSheet xs q) (sym is) (push_stay old s q has);
    }
  where
    is_some : (x : Content) → IsSome (Some x)
    is_some x = refl

-- ---- a page that is taken

pub taken_used : (spares : List Bool) (page : ℕ) → get_or (slice_set spares page false) page false ≡ false
taken_used [] page = refl
taken_used (x ∷ spares) zero = refl
taken_used (x ∷ spares) (suc page) = taken_used spares page

pub taken_kept : (step : Step) (page q : ℕ) → IsReached step q → IsReached (with_taken page step) q
taken_kept step page q h = (h.0, or_more (is_one_of step.reached q) (is_one_of step.changed q) (is_one_of (with_one step.changed page) q) (one_kept step.changed page q) h.1)

pub taken_changes : (step : Step) (page : ℕ) → changes step ≤ changes (with_taken page step) + 1
taken_changes step page = omega (arith, one_count step.changed page)
