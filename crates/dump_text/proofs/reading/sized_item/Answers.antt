use Rattle.std.proofs.Common.{◌≡◌, ℕ, List, length, take, drop, sym, ap, ◌∙◌, arith}
use Rattle.fsd_dumps.specs.Front.{number_16, number_32}
use Rattle.fsd_bytes.specs.Keys.{key_of}
use Rattle.fsd_bytes.specs.Bytes.{u8_at}
use Rattle.dump_text.proofs.ItemLaws.{head_part, bad_item, short_item, named_item, good_item}
use Rattle.dump_text.proofs.reading.sized_item.Goals as goal

pub returns-then-not-may_begin : goal.returns-then-not-may_begin
returns-then-not-may_begin c =
    let a = c.args in
    let head = head_part a.front.now a.rest.now a.n c.min.result c.requires.front c.min.ensures in
    bad_item a.last.now a.behind a.front.now a.rest.now (take c.min.result a.front.now) a.n c.most_begun.result c.requires.front head (sym c.may_begin.ensures ∙ c.if-not-may_begin.true) c.most_begun.ensures.count c.most_begun.ensures.within

pub returns-then-named-length : goal.returns-then-named-length
returns-then-named-length c =
    let a = c.args in
    let head = head_part a.front.now a.rest.now a.n c.min.result c.requires.front c.min.ensures in
    let long : c.first_32-length.result ≡ number_32 (drop 7 (drop a.n a.rest.now)) = c.first_32-length.ensures ∙ ap number_32 (c.from.ensures ∙ ap (drop 7) c.from-named.ensures) in
    let size : length c.from-named.result.now ≡ length (drop a.n a.rest.now) = ap (λ (xs : List ℕ). length xs) c.from-named.ensures in
    short_item a.last.now a.behind a.front.now a.rest.now (take c.min.result a.front.now) a.n c.requires.front head (sym c.may_begin.ensures ∙ c.if-not-may_begin.false) (omega (arith, long, size, c.if-named-length.true))

pub named_item-requires : goal.named_item-requires
named_item-requires c =
    let a = c.args in
    let head = head_part a.front.now a.rest.now a.n c.min.result c.requires.front c.min.ensures in
    let long : c.first_32-length.result ≡ number_32 (drop 7 (drop a.n a.rest.now)) = c.first_32-length.ensures ∙ ap number_32 (c.from.ensures ∙ ap (drop 7) c.from-named.ensures) in
    let size : length c.from-named.result.now ≡ length (drop a.n a.rest.now) = ap (λ (xs : List ℕ). length xs) c.from-named.ensures in
    named_item a.last.now a.behind a.rest.now (take c.min.result a.front.now) a.n head (sym c.may_begin.ensures ∙ c.if-not-may_begin.false) (omega (arith, long, size, c.if-named-length.false))

pub returns : goal.returns
returns c =
    let a = c.args in
    let head = head_part a.front.now a.rest.now a.n c.min.result c.requires.front c.min.ensures in
    let named = c.from-named.ensures in
    let long : c.first_32-length.result ≡ number_32 (drop 7 (drop a.n a.rest.now)) = c.first_32-length.ensures ∙ ap number_32 (c.from.ensures ∙ ap (drop 7) named) in
    let size : length c.from-named.result.now ≡ length (drop a.n a.rest.now) = ap (λ (xs : List ℕ). length xs) named in
    let x = c.named_item.ensures in
    good_item a.last.now a.behind a.front.now a.rest.now (take c.min.result a.front.now) a.n c.named_item.result c.requires.front head (sym c.may_begin.ensures ∙ c.if-not-may_begin.false) (omega (arith, long, size, c.if-named-length.false))
    (x.key ∙ ap (λ (xs : List ℕ). key_of (take a.n a.rest.now) (number_32 xs)) named)
    (x.keep ∙ ap (λ (xs : List ℕ). number_16 (drop 4 xs)) named)
    (x.kind ∙ ap (u8_at 6) named)
    (x.place.0)
    (x.place.1 ∙ long)
