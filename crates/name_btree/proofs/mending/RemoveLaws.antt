-- A leaf without a key, and faults below a child.
use Rattle.std.proofs.Common.{length, ◌≡◌, ℕ, zero, suc, ◌<◌, ◌≤◌, true, false, ◌&&◌, List, [], ◌∷◌, Some, refl, sym, ap, subst, ◌∙◌, arith}
use Rattle.std.proofs.Math.Bool.{or-false}
use Rattle.std.specs.Prelude.{◌==◌, nat_le}
use Rattle.std.specs.List.{list_all}
use Rattle.std.proofs.lemmas.Bool.{and_parts, leb-true, or_left}
use Rattle.std.proofs.lemmas.List.{append-nil}
use Rattle.run_table.specs.Space.{contains}
use Rattle.fsd_bytes.specs.declared.key.Key.{Key}
use Rattle.fsd_bytes.specs.Names.{is_between}
use Rattle.fsd_formats.specs.declared.entry.Entry.{Entry}
use Rattle.fsd_formats.specs.NamePage.{Content, is_page, is_entry, are_ascending, least_used, room}
use Rattle.fsd_formats.specs.NamePage as grammar
use Rattle.fsd_table.specs.declared.child.Child.{Child}
use Rattle.fsd_table.specs.Pages.{page_at, keys_fit, entry_keys, entries_of}
use Rattle.fsd_table.specs.Tree.{IsLeaf, IsInterior, IsSubtree}
use Rattle.fsd_table.proofs.BoundLaws.{Ascend}
use Rattle.fsd_table.proofs.PageLaws.{at_is_page}
use Rattle.fsd_forest.specs.Forest.{Stay, Becomes}
use Rattle.fsd_forest.proofs.ForestLaws.{leaves_become}
use Rattle.name_page.specs.Edits.{without}
use Rattle.name_page.proofs.SideLaws.{without_fits, without_ascends, without_all}
use Rattle.name_page.specs.Pages.{Step}
use Rattle.name_page.specs.Parting.{used_by}
use Rattle.name_btree.specs.declared.draft.Draft.{Draft}
use Rattle.name_btree.specs.declared.draft.Sheet.{Sheet}
use Rattle.name_btree.specs.declared.trimming.Trimmed.{Trimmed}
use Rattle.name_btree.specs.declared.trimming.Trimmed.TheVariants.{Whole, Leaf, Interior}
use Rattle.name_btree.specs.Draft.{drafted, IsDrafted}
use Rattle.name_btree.specs.Fault.{IsMisfit}
use Rattle.name_btree.specs.Remove.{IsAround, IsTrimmed, BreaksAround}
use Rattle.name_btree.specs.Trim.{AreEntries, IsLeafPut, IsLeft}
use Rattle.name_btree.proofs.ways.DescentLaws.{misfit}
use Rattle.name_btree.proofs.steps.ReplaceLaws.{leaf_parts}

-- ---- faults

pub misfit_below : (key : Key) (sheets : List Sheet) (levels : ℕ) (c : Child) (images : List (List ℕ)) (page : ℕ) → IsMisfit (drafted sheets images) c page → BreaksAround key (drafted sheets images) levels c page
misfit_below key sheets levels c images page h = λ level most around. misfit level (drafted sheets images) c h.1 around.subtree

-- ---- leaves

pub leaf_most : (page p : ℕ) (xs : List Entry) → is_page page p (grammar.Leaf xs) ≡ true → used_by xs ≤ 488
leaf_most page p xs e =
    let outer = and_parts (list_all is_entry xs && are_ascending (entry_keys xs)) (is_between (least_used page) room (used_by xs)) e in
    leb-true (used_by xs) 488 (and_parts (nat_le (least_used page) (used_by xs)) (nat_le (used_by xs) 488) outer.1).1

pub leaf_left : (step : Step) (old new : List Sheet) (p : ℕ) (c : Child) (entries : List Entry) (left : Trimmed) → AreEntries entries → keys_fit c.low c.high (entry_keys entries) ≡ true → IsLeafPut step old new c.page entries left → IsLeft p c left
leaf_left step old new p c entries Whole are fit h = tt
leaf_left step old new p c entries (Leaf list) are fit h = record {
  are = subst AreEntries (sym h.1) are;
  within = ap (λ (es : List Entry). keys_fit c.low c.high (entry_keys es)) h.1 ∙ fit;
  few = subst (λ (es : List Entry). used_by es < 190) (sym h.1) h.2;
}
leaf_left step old new p c entries (Interior first list) are fit h = absurd h

pub one_page : (page q : ℕ) → contains (page ∷ []) q ≡ false → q ≡ page → ⊥
one_page page q e same = let there = or_left (page == q) false (by page q (sym same)) in absurd cc
  where
    by : (a b : ℕ) → a ≡ b → (a == b) ≡ true
    by a b e = grind arith

-- a page of another content, and no other page
pub stays_but : (old new : List Sheet) (step : Step) (page : ℕ) (x : Content) → IsDrafted step old new page x → Stay (drafted old step.images) (drafted new step.images) (page ∷ [])
stays_but old new step page x d q out = d.others q (one_page page q out)

pub leaf_becomes : (edit : List Entry → List Entry) (pages after : List (List ℕ)) (c : Child) (entries items : List Entry) → page_at pages c.page ≡ Some (grammar.Leaf entries) → page_at after c.page ≡ Some (grammar.Leaf items) → items ≡ edit entries
    → keys_fit c.low c.high (entry_keys items) ≡ true → Becomes edit pages after [] [] zero (c ∷ []) (c ∷ [])
leaf_becomes edit pages after c entries items was now is fit =
    leaves_become edit pages after [] [] (c ∷ []) (c ∷ []) (subst (IsLeaf c) (sym now) fit, tt) (λ p. refl)
    (append-nil (entries_of (page_at after c.page)) ∙ ap entries_of now ∙ is ∙ ap edit (sym (append-nil (entries_of (page_at pages c.page)) ∙ ap entries_of was)))

pub leaf_trimmed : (step : Step) (key : Key) (old new : Draft) (level : ℕ) (c : Child) (entries items : List Entry) (left : Trimmed) → page_at (drafted old.sheets.items step.images) c.page ≡ Some (grammar.Leaf entries)
    → items ≡ without key entries → keys_fit c.low c.high (entry_keys entries) ≡ true → new.freed.items ≡ old.freed.items → IsLeafPut step old.sheets.items new.sheets.items c.page items left
    → IsAround key (drafted old.sheets.items step.images) level c
    → IsTrimmed key (drafted old.sheets.items step.images) (drafted new.sheets.items step.images) old.freed.items new.freed.items level c left
leaf_trimmed step key old new (suc level) c entries items left at is fit freed put around = absurd (subst (IsInterior (IsSubtree level (drafted old.sheets.items step.images)) c) at around.subtree)
leaf_trimmed step key old new zero c entries items Whole at is fit freed put around =
    let fits : keys_fit c.low c.high (entry_keys items) ≡ true = ap (λ (es : List Entry). keys_fit c.low c.high (entry_keys es)) is ∙ without_fits key c.low c.high entries fit in
    record {
      went = [];
      freed = λ q. ap (λ (ps : List ℕ). contains ps q) freed ∙ sym (or-false (contains old.freed.items q));
      stay = stays_but old.sheets.items new.sheets.items step c.page (grammar.Leaf items) put;
      becomes = leaf_becomes (without key) (drafted old.sheets.items step.images) (drafted new.sheets.items step.images) c entries items at put.content is fits;
    }
leaf_trimmed step key old new zero c entries items (Leaf list) at is fit freed put around =
    let same : (q : ℕ) → page_at (drafted new.sheets.items step.images) q ≡ page_at (drafted old.sheets.items step.images) q = λ q. ap (λ (s : List Sheet). page_at (drafted s step.images) q) put.0 in
    record {
      went = [];
      freed = λ q. ap (λ (ps : List ℕ). contains ps q) freed ∙ sym (or-false (contains old.freed.items q));
      stay = λ q out. same q;
      becomes = (refl, put.1 ∙ is ∙ ap (without key) (sym (ap entries_of at)), λ q out. same q);
    }
leaf_trimmed step key old new zero c entries items (Interior first list) at is fit freed put around = absurd put

pub without_leaf : (pages : List (List ℕ)) (page : ℕ) (key : Key) (entries items : List Entry) → page_at pages page ≡ Some (grammar.Leaf entries) → items ≡ without key entries
    → (list_all is_entry items ≡ true) × (are_ascending (entry_keys items) ≡ true)
without_leaf pages page key entries items at is =
    let parts = leaf_parts page (length pages) entries (at_is_page pages page (grammar.Leaf entries) at) in
    (ap (list_all is_entry) is ∙ without_all is_entry key entries parts.each, subst Ascend (sym is) (without_ascends key entries parts.order))
