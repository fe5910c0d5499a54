-- what a header without a fault says
use Rattle.std.proofs.Common.{◌≡◌, ℕ, ◌+◌, ◌<◌, ◌≤◌, List, length, get_or, None, arith}
use Rattle.std.proofs.lemmas.Bool.Decides.{nat_tests}
use Rattle.parts.specs.Limits.{terminals}
use Rattle.cards.specs.Words.{word_at}
use Rattle.books.specs.Books.{table_groups}
use Rattle.callfile.specs.Limits.{head_length, longest, card_kind_at, book_kind_at, terminals_at, founder_at, groups_at, groups_offset_at, card_offset_at, calls_offset_at, card_from}
use Rattle.callfile.specs.Reading.{size_fault, kind_fault, limit_fault, offset_fault, head_fault}
use Rattle.callfile.proofs.Results.{both-none}

pub record Head (card_kind book_kind span : ℕ) (xs : List ℕ) : Type 0 where
  pub long : head_length ≤ length xs
  pub short : length xs ≤ longest
  pub card-kind : get_or xs card_kind_at 0 ≡ card_kind
  pub book-kind : get_or xs book_kind_at 0 ≡ book_kind
  pub some : 1 ≤ word_at xs terminals_at
  pub few : word_at xs terminals_at ≤ terminals
  pub founded : word_at xs founder_at < word_at xs terminals_at
  pub some-groups : 1 ≤ word_at xs groups_at
  pub few-groups : word_at xs groups_at ≤ table_groups
  pub groups-at : word_at xs groups_offset_at ≡ head_length
  pub card-at : word_at xs card_offset_at ≡ card_from (word_at xs groups_at)
  pub calls-at : word_at xs calls_offset_at ≡ card_from (word_at xs groups_at) + span
  pub inside : word_at xs calls_offset_at ≤ length xs

size_none : (xs : List ℕ) → size_fault xs ≡ None → (head_length ≤ length xs) × (length xs ≤ longest)
size_none xs e = grind (arith, nat_tests)

kind-none : (k b : ℕ) (xs : List ℕ) → kind_fault k b xs ≡ None → (get_or xs card_kind_at 0 ≡ k) × (get_or xs book_kind_at 0 ≡ b)
kind-none k b xs e = grind (arith, nat_tests)

pub limit_none : (n f g : ℕ) → limit_fault n f g ≡ None → (1 ≤ n) × (n ≤ terminals) × (f < n) × (1 ≤ g) × (g ≤ table_groups)
limit_none n f g e = grind (arith, nat_tests)

offset-none : (span : ℕ) (xs : List ℕ) → offset_fault span xs ≡ None →
    (word_at xs groups_offset_at ≡ head_length) × (word_at xs card_offset_at ≡ card_from (word_at xs groups_at))
    × (word_at xs calls_offset_at ≡ card_from (word_at xs groups_at) + span) × (word_at xs calls_offset_at ≤ length xs)
offset-none span xs e = grind (arith, nat_tests)

pub head-none : (k b span : ℕ) (xs : List ℕ) → head_fault k b span xs ≡ None → Head k b span xs
head-none k b span xs e =
    let p = both-none (size_fault xs) _ e in
    let q = both-none (kind_fault k b xs) _ p.1 in
    let r = both-none (limit_fault (word_at xs terminals_at) (word_at xs founder_at) (word_at xs groups_at)) _ q.1 in
    let s = size_none xs p.0 in
    let t = kind-none k b xs q.0 in
    let l = limit_none _ _ _ r.0 in
    let o = offset-none span xs r.1 in
    record {
      long = s.0;
      short = s.1;
      card-kind = t.0;
      book-kind = t.1;
      some = l.0;
      few = l.1;
      founded = l.2;
      some-groups = l.3;
      few-groups = l.4;
      groups-at = o.0;
      card-at = o.1;
      calls-at = o.2;
      inside = o.3;
    }

pub none-head : (k b span : ℕ) (xs : List ℕ) → Head k b span xs → head_fault k b span xs ≡ None
none-head k b span xs h = grind (arith, nat_tests)
