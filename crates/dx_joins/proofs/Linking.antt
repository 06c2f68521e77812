-- Links of keys.
use Rattle.std.proofs.Common.{◌≡◌, ◌∙◌, ◌<◌, ◌≤◌, ◌+◌, ◌%◌, ℕ, List, refl, sym, arith, length, set, replicate, inl, inr}
use Rattle.std.specs.Prelude.{slice_index}
use Rattle.std.proofs.lemmas.Bool.{cases_eq}
use Rattle.std.proofs.lemmas.List.{length-set, get_or-set_same, get_or-set_other, get_or-replicate, length-replicate}
use Rattle.dx_joins.specs.Looking.{IsNextInBucket, Links}

pub next_wider : (keys : List ℕ) (m b from at : ℕ) → ¬ (slice_index keys from % m ≡ b) → IsNextInBucket keys m b (from + 1) at → IsNextInBucket keys m b from at
next_wider keys m b from at n s = record {
  after = omega (arith, s.after);
  within = s.within;
  skips = λ q l h. elim (cases_eq q from) [ inl e ↦ rw e n | inr d ↦ s.skips q (omega (arith, l, d)) h ];
  falls = s.falls;
}

pub next_here : (keys : List ℕ) (m b at : ℕ) → at < length keys → slice_index keys at % m ≡ b → IsNextInBucket keys m b at at
next_here keys m b at h e = record { after = omega arith; within = omega (arith, h); skips = λ q l k. absurd (omega (arith, l, k)); falls = λ z. e }

pub next_none : (keys : List ℕ) (m b n : ℕ) → n ≡ length keys → IsNextInBucket keys m b n n
next_none keys m b n e = record { after = omega arith; within = omega (arith, e); skips = λ q l k. absurd (omega (arith, l, k)); falls = λ z. absurd (omega (arith, e, z)) }

pub links_none : (keys : List ℕ) (n buckets : ℕ) → n ≡ length keys → 0 < buckets → Links keys (replicate buckets n) (replicate (length keys) n) (length keys)
links_none keys n buckets e some = record {
  some = omega (arith, some, length-replicate buckets n);
  many = length-replicate (length keys) n;
  head = λ b h.
      let k : b < buckets = omega (arith, h, length-replicate buckets n) in
      let at : slice_index (replicate buckets n) b ≡ n = get_or-replicate buckets b n 0 k in
      rw (at, e) (next_none keys (length (replicate buckets (length keys))) b (length keys) refl);
  next = λ p l h. absurd (omega (arith, l, h));
}

pub links_more : (keys heads nexts : List ℕ) (p b : ℕ) → p < length keys → b ≡ slice_index keys p % length heads → b < length heads → Links keys heads nexts (p + 1)
    → Links keys (set heads b p) (set nexts p (slice_index heads b)) p
links_more keys heads nexts p b h e w l = record {
  some = omega (arith, l.some, length-set heads b p);
  many = length-set nexts p (slice_index heads b) ∙ l.many;
  head = λ c k. rw (length-set heads b p) (head c (omega (arith, k, length-set heads b p)));
  next = λ q i k. rw (length-set heads b p) (next q i k);
}
  where
    head : (c : ℕ) → c < length heads → IsNextInBucket keys (length heads) c p (slice_index (set heads b p) c)
    head c k = elim (cases_eq c b) [
      | inl q ↦ rw (q, get_or-set_same heads b p 0 w) (next_here keys (length heads) b p h (sym e))
      | inr d ↦ rw (get_or-set_other heads b c p 0 d) (next_wider keys (length heads) c p (slice_index heads c) (λ z. d (sym (e ∙ z))) (l.head c k))
    ]

    next : (q : ℕ) → p ≤ q → q < length keys → IsNextInBucket keys (length heads) (slice_index keys q % length heads) (q + 1) (slice_index (set nexts p (slice_index heads b)) q)
    next q i k = elim (cases_eq q p) [
      | inl z ↦ rw (z, get_or-set_same nexts p (slice_index heads b) 0 (omega (arith, h, l.many)), ← e) (l.head b w)
      | inr d ↦ rw (get_or-set_other nexts p q (slice_index heads b) 0 d) (l.next q (omega (arith, i, d)) k)
    ]

pub below_mod : (a m : ℕ) → 0 < m → a % m < m
below_mod a m h = omega arith
