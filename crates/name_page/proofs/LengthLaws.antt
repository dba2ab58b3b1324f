-- How long contents are.
use Rattle.std.proofs.Common.{◌≡◌, ℕ, ◌+◌, ◌-◌, ◌<◌, ◌≤◌, List, [], ◌∷◌, ◌++◌, length, take, drop, get_or, refl, ap, sym, subst, ◌∙◌, arith, append_assoc}
use Rattle.std.specs.Prelude.{replicate}
use Rattle.std.proofs.Math.Seq.{take-append_seam, drop-append-add}
use Rattle.std.specs.List.{flat_map}
use Rattle.std.proofs.lemmas.List.{length-append, append-nil, take_more, drop-replicate}
use Rattle.std.proofs.lemmas.Grind.{flat_map-append}
use Rattle.fsd_bytes.specs.Bytes.{u32, zeros, sector, with_bytes}
use Rattle.run_table.specs.RunTable.{run_bytes}
use Rattle.fsd_formats.specs.declared.entry.Entry.{Entry}
use Rattle.fsd_formats.specs.declared.page.Separator.{Separator}
use Rattle.fsd_formats.specs.NamePage.{entry_bytes, separator_bytes}
use Rattle.fsd_table.proofs.EntryLaws.{length_entry}
use Rattle.name_page.specs.Spelling.{numbers}

-- an entry takes some bytes
pub count_below : (entries : List Entry) → length entries ≤ length (flat_map entry_bytes entries)
count_below [] = omega arith
count_below (e ∷ entries) = omega (arith, count_below entries, length-append (entry_bytes e) (flat_map entry_bytes entries), length_entry e)

-- the contents of one entry more
pub contents_more : (entries : List Entry) (k : ℕ) (d : Entry) → k < length entries
    → flat_map entry_bytes (take (k + 1) entries) ≡ flat_map entry_bytes (take k entries) ++ entry_bytes (get_or entries k d)
contents_more entries k d inside =
    let e : Entry = get_or entries k d in
    ap (flat_map entry_bytes) (take_more entries k d inside)
    ∙ flat_map-append entry_bytes (take k entries) (e ∷ [])
    ∙ ap (λ (x : List ℕ). flat_map entry_bytes (take k entries) ++ x) (append-nil (entry_bytes e))

-- the parts of an entry, put one behind another
pub entry_joined : (e : Entry) (one named numbered counted all name n runs : List ℕ) (k m : ℕ)
    → one ≡ k ∷ [] → k ≡ length name → name ≡ e.key.name → named ≡ one ++ name → numbered ≡ named ++ n → n ≡ numbers e
    → counted ≡ numbered ++ m ∷ [] → m ≡ length e.runs → all ≡ counted ++ runs → runs ≡ flat_map run_bytes e.runs → all ≡ entry_bytes e
entry_joined e one named numbered counted all name n runs k m e1 ek ename e2 e3 en e4 em e5 er =
    let bytes : List ℕ = flat_map run_bytes e.runs in
    let laid : all ≡ ((((length e.key.name ∷ []) ++ e.key.name) ++ numbers e) ++ length e.runs ∷ []) ++ bytes =
    e5 ∙ ap (λ (x : List ℕ). x ++ runs) (e4 ∙ ap (λ (x : List ℕ). x ++ m ∷ []) (e3 ∙ ap (λ (x : List ℕ). x ++ n) (e2 ∙ ap (λ (x : List ℕ). x ++ name) (e1 ∙ ap (λ (x : ℕ). x ∷ []) (ek ∙ ap length ename)))))
    ∙ ap (λ (x : List ℕ). ((((length e.key.name ∷ []) ++ x) ++ n) ++ m ∷ []) ++ runs) ename
    ∙ ap (λ (x : List ℕ). ((((length e.key.name ∷ []) ++ e.key.name) ++ x) ++ m ∷ []) ++ runs) en
    ∙ ap (λ (x : ℕ). ((((length e.key.name ∷ []) ++ e.key.name) ++ numbers e) ++ x ∷ []) ++ runs) em
    ∙ ap (λ (x : List ℕ). ((((length e.key.name ∷ []) ++ e.key.name) ++ numbers e) ++ length e.runs ∷ []) ++ x) er in
    laid
    ∙ append_assoc (((length e.key.name ∷ []) ++ e.key.name) ++ numbers e) (length e.runs ∷ []) bytes
    ∙ append_assoc ((length e.key.name ∷ []) ++ e.key.name) (numbers e) (length e.runs ∷ bytes)
    ∙ ap (λ (x : List ℕ). length e.key.name ∷ (e.key.name ++ (numbers e ++ length e.runs ∷ x))) (sym (append-nil bytes))

-- bytes that are put right behind a head
behind : (place : ℕ) (front rest bytes : List ℕ) → length front ≡ place → with_bytes place bytes (front ++ rest) ≡ front ++ (bytes ++ drop (length bytes) rest)
behind place front rest bytes e =
    let family = λ (n : ℕ). with_bytes n bytes (front ++ rest) ≡ front ++ (bytes ++ drop (length bytes) rest) in
    subst family e (rw (take-append_seam, drop-append-add) refl)

-- contents behind a head are a page
pub page_laid : (front bytes contents b h : List ℕ) → length front ≡ 24 → length contents ≤ 488 → h ≡ front ++ replicate 488 0 → bytes ≡ contents → b ≡ with_bytes 24 bytes h → b ≡ sector (front ++ contents)
page_laid front bytes contents b h len few eh eb e =
    e ∙ ap (with_bytes 24 bytes) eh ∙ ap (λ (t : List ℕ). with_bytes 24 t (front ++ replicate 488 0)) eb
    ∙ behind 24 front (replicate 488 0) contents len
    ∙ ap (λ (r : List ℕ). front ++ (contents ++ r)) (drop-replicate (length contents) 488 0)
    ∙ ap (λ (n : ℕ). front ++ (contents ++ replicate n 0)) (let same : 488 - length contents ≡ 512 - length (front ++ contents) = omega (arith, length-append front contents) in same)
    ∙ sym (append_assoc front contents _)

-- the parts of a separator, put one behind another
pub separator_joined : (s : Separator) (one named filled numbered all name z v c : List ℕ) (k : ℕ)
    → one ≡ k ∷ [] → k ≡ length name → name ≡ s.key.name → named ≡ one ++ name → filled ≡ named ++ z → z ≡ zeros (40 - length name)
    → numbered ≡ filled ++ v → v ≡ u32 s.key.version → all ≡ numbered ++ c → c ≡ u32 s.child → all ≡ separator_bytes s
separator_joined s one named filled numbered all name z v c k e1 ek ename e2 e3 ez e4 ev e5 ec =
    let laid : all ≡ ((((length s.key.name ∷ []) ++ s.key.name) ++ zeros (40 - length s.key.name)) ++ u32 s.key.version) ++ u32 s.child =
    e5 ∙ ap (λ (x : List ℕ). x ++ c) (e4 ∙ ap (λ (x : List ℕ). x ++ v) (e3 ∙ ap (λ (x : List ℕ). x ++ z) (e2 ∙ ap (λ (x : List ℕ). x ++ name) (e1 ∙ ap (λ (x : ℕ). x ∷ []) ek))))
    ∙ ap (λ (x : List ℕ). ((((length name ∷ []) ++ name) ++ x) ++ v) ++ c) ez
    ∙ ap (λ (x : List ℕ). ((((length x ∷ []) ++ x) ++ zeros (40 - length x)) ++ v) ++ c) ename
    ∙ ap (λ (x : List ℕ). ((((length s.key.name ∷ []) ++ s.key.name) ++ zeros (40 - length s.key.name)) ++ x) ++ c) ev
    ∙ ap (λ (x : List ℕ). ((((length s.key.name ∷ []) ++ s.key.name) ++ zeros (40 - length s.key.name)) ++ u32 s.key.version) ++ x) ec in
    laid ∙ append_assoc (((length s.key.name ∷ []) ++ s.key.name) ++ zeros (40 - length s.key.name)) (u32 s.key.version) (u32 s.child)

-- the bytes of one separator more
pub separators_more : (xs : List Separator) (k : ℕ) (d : Separator) → k < length xs
    → flat_map separator_bytes (take (k + 1) xs) ≡ flat_map separator_bytes (take k xs) ++ separator_bytes (get_or xs k d)
separators_more xs k d inside =
    let s : Separator = get_or xs k d in
    ap (flat_map separator_bytes) (take_more xs k d inside)
    ∙ flat_map-append separator_bytes (take k xs) (s ∷ [])
    ∙ ap (λ (x : List ℕ). flat_map separator_bytes (take k xs) ++ x) (append-nil (separator_bytes s))
