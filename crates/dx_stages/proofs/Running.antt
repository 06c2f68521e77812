-- What is computed of stages in a row, from what is computed of each.
use Rattle.std.proofs.Common.{◌≡◌, ◌⊎◌, ℕ, List, [], ◌∷◌, ◌++◌, refl, sym, ap, ◌∙◌, subst, inl, inr, arith, Option, Some, Result, Ok, Err}
use Rattle.std.proofs.lemmas.List.{append-nil, append_assoc}
use Rattle.std.specs.Result.{IsErrAnd}
use Rattle.dx_base.specs.Entries.{FileMap}
use Rattle.dx_ports.specs.Faults.{Rose}
use Rattle.dx_ports.specs.States.{Found, InputState}
use Rattle.dx_stages.specs.declared.stop.Stop.{Stop}
use Rattle.dx_stages.specs.declared.stop.Stop.TheVariants as stops
use Rattle.dx_stages.specs.Worlds.{World, Agrees, HoldsFound, WasAsked}
use Rattle.dx_stages.specs.Stages.{Stage, next, stay, each, by, over, into, file, saying, saying_if, become}
use Rattle.dx_stages.specs.Laws.{AsksOtherFiles}
use Rattle.dx_stages.specs.Running.{Answers, Meets, Gives, FailedAt, Ran, with_refusal}
use Rattle.dx_stages.proofs.Worlds.{agrees_both, told_both, has_either, once_both, a_world}

-- ---- what follows of one stage

-- each notion of the one is the other's
pub record Within {E A B : Type 0} (s t : Stage E A B) : Type 0 where
  pub refuses : (c : World) (a : A) (e : E) → s.refuses c a e → t.refuses c a e
  pub passes : (c : World) (a : A) (b : B) → s.passes c a b → t.passes c a b
  pub asks : (c : World) (a : A) (n : List ℕ) → s.asks c a n → t.asks c a n

meets_within : {E A B : Type 0} (s t : Stage E A B) → Within s t → (c : World) (a : A) (r : Result B (Stop E)) → Meets s c a r → Meets t c a r
meets_within s t w c a (Ok b) m = w.passes c a b m
meets_within s t w c a (Err (stops.Refused e)) m = w.refuses c a e m
meets_within s t w c a (Err (stops.Failed n)) m = w.asks c a n m
meets_within s t w c a (Err stops.Memory) m = tt

pub ran_within : {E A B : Type 0} (s t : Stage E A B) → Within s t → (a : A) (r : Result B (Stop E)) (old new : InputState) → Ran s a r old new → Ran t a r old new
ran_within s t w a r old new x = record {
  kept = x.kept;
  counted = x.counted;
  failed = x.failed;
  finds = record {
    found = x.finds.found;
    told = x.finds.told;
    once = x.finds.once;
    asked = λ c g n h. w.asks c a n (x.finds.asked c g n h);
    meets = λ c g. meets_within s t w c a r (x.finds.meets c g);
  };
  answered = x.answered;
}

gives_meets : {E A B : Type 0} (s : Stage E A B) (a : A) (r : Result B (Stop E)) → Gives s a r → (c : World) → Meets s c a r
gives_meets s a (Ok b) g c = g c
gives_meets s a (Err (stops.Refused e)) g c = g c
gives_meets s a (Err (stops.Failed n)) g c = absurd g
gives_meets s a (Err stops.Memory) g c = tt

gives_no_fault : {E A B : Type 0} (s : Stage E A B) (a : A) (r : Result B (Stop E)) (told : InputState) → Gives s a r → FailedAt told told r
gives_no_fault s a (Ok b) told g = refl
gives_no_fault s a (Err (stops.Refused e)) told g = refl
gives_no_fault s a (Err (stops.Failed n)) told g = absurd g
gives_no_fault s a (Err stops.Memory) told g = refl

-- no file is read
pub ran_value : {E A B : Type 0} (s : Stage E A B) (a : A) (r : Result B (Stop E)) (told : InputState) → Gives s a r → Ran s a r told told
ran_value s a r told g = record {
  kept = refl;
  counted = omega arith;
  failed = gives_no_fault s a r told g;
  finds = record { found = []; told = tt; once = tt; asked = λ c x n h. absurd h; meets = λ c x. gives_meets s a r g c };
  answered = sym (append-nil told.answered);
}

-- memory ran out
pub ran_out : {E A B : Type 0} (s : Stage E A B) (a : A) (told : InputState) → Ran s a (Err stops.Memory) told told
ran_out s a told = ran_value s a (Err stops.Memory) told tt

-- ---- one after the other

stops_next : {E A B C : Type 0} (s : Stage E A B) (t : Stage E B C) (c : World) (a : A) (e : Stop E) → Meets s c a (Err e) → Meets (next s t) c a (Err e)
stops_next s t c a (stops.Refused e) m = inl m
stops_next s t c a (stops.Failed n) m = inl m
stops_next s t c a stops.Memory m = tt

pub fault_of : {E : Type 0} (B C : Type 0) (old new : InputState) (e : Stop E) → FailedAt {B = B} old new (Err e) → FailedAt {B = C} old new (Err e)
fault_of B C old new (stops.Refused e) f = f
fault_of B C old new (stops.Failed n) f = f
fault_of B C old new stops.Memory f = f

-- the first stage stops
pub ran_stop : {E A B C : Type 0} (s : Stage E A B) (t : Stage E B C) (a : A) (e : Stop E) (old new : InputState) → Ran s a (Err e) old new → Ran (next s t) a (Err e) old new
ran_stop {E} {A} {B} {C} s t a e old new x = record {
  kept = x.kept;
  counted = x.counted;
  failed = fault_of B C old new e x.failed;
  finds = record {
    found = x.finds.found;
    told = x.finds.told;
    once = x.finds.once;
    asked = λ c g n h. inl (x.finds.asked c g n h);
    meets = λ c g. stops_next s t c a e (x.finds.meets c g);
  };
  answered = x.answered;
}

meets_next : {E A B C : Type 0} (s : Stage E A B) (t : Stage E B C) (c : World) (a : A) (b : B) (r : Result C (Stop E)) → s.passes c a b → Meets t c b r → Meets (next s t) c a r
meets_next s t c a b (Ok x) p m = (b, p, m)
meets_next s t c a b (Err (stops.Refused e)) p m = inr (b, p, m)
meets_next s t c a b (Err (stops.Failed n)) p m = inr (b, p, m)
meets_next s t c a b (Err stops.Memory) p m = tt

fault_since : {E C : Type 0} (old mid new : InputState) (r : Result C (Stop E)) → mid.faults ≡ old.faults → FailedAt mid new r → FailedAt old new r
fault_since old mid new (Ok x) same f = f ∙ same
fault_since old mid new (Err (stops.Refused e)) same f = f ∙ same
fault_since old mid new (Err (stops.Failed n)) same f = (subst (λ (k : ℕ). Rose k new.faults) same f.0, f.1)
fault_since old mid new (Err stops.Memory) same f = f ∙ same

-- the first stage passes, and the second is computed on what it passes
pub ran_next : {E A B C : Type 0} (s : Stage E A B) (t : Stage E B C) (a : A) (b : B) (r : Result C (Stop E)) (old mid new : InputState) → AsksOtherFiles s t
    → Ran s a (Ok b) old mid → Ran t b r mid new → Ran (next s t) a r old new
ran_next {E} {A} {B} {C} s t a b r old mid new apart x y = record {
  kept = y.kept ∙ x.kept;
  counted = omega (arith, x.counted, y.counted);
  failed = fault_since old mid new r x.failed y.failed;
  finds = record {
    found = x.finds.found ++ y.finds.found;
    told = told_both old.holds x.finds.found y.finds.found x.finds.told later;
    once = once_both x.finds.found y.finds.found x.finds.once y.finds.once never;
    asked = asked;
    meets = λ c g. let h = agrees_both c x.finds.found y.finds.found g in meets_next s t c a b r (x.finds.meets c h.0) (y.finds.meets c h.1);
  };
  answered = y.answered ∙ ap (λ (l : List Found). l ++ y.finds.found) x.answered ∙ append_assoc old.answered x.finds.found y.finds.found;
}
  where
    later : HoldsFound old.holds y.finds.found
    later = subst (λ (o : Option FileMap). HoldsFound o y.finds.found) x.kept y.finds.told

    never : (n : List ℕ) → WasAsked n x.finds.found → ¬ (WasAsked n y.finds.found)
    never n p q =
        let c = a_world old.holds x.finds.found x.finds.told x.finds.once in
        let d = a_world old.holds y.finds.found later y.finds.once in
        apart c.0 d.0 a b n (x.finds.meets c.0 c.2) (x.finds.asked c.0 c.2 n p) (y.finds.asked d.0 d.2 n q)

    which : (c : World) → Agrees c x.finds.found → Agrees c y.finds.found → (n : List ℕ) → WasAsked n x.finds.found ⊎ WasAsked n y.finds.found → (next s t).asks c a n
    which c g h n (inl p) = inl (x.finds.asked c g n p)
    which c g h n (inr q) = inr (b, x.finds.meets c g, y.finds.asked c h n q)

    asked : (c : World) → Agrees c (x.finds.found ++ y.finds.found) → (n : List ℕ) → WasAsked n (x.finds.found ++ y.finds.found) → (next s t).asks c a n
    asked c g n h = let k = agrees_both c x.finds.found y.finds.found g in which c k.0 k.1 n (has_either n x.finds.found y.finds.found h)

-- ---- one for each

next_stay : {E A B : Type 0} (s : Stage E A B) → Within (next s stay) s
next_stay {E} {A} {B} s = record {
  refuses = λ c a e r. refuses c a e r;
  passes = λ c a b p. subst (λ v. s.passes c a v) (sym p.2) p.1;
  asks = λ c a n r. asks c a n r;
}
  where
    refuses : (c : World) (a : A) (e : E) → (next s stay).refuses c a e → s.refuses c a e
    refuses c a e (inl r) = r
    refuses c a e (inr r) = absurd r.2

    asks : (c : World) (a : A) (n : List ℕ) → (next s stay).asks c a n → s.asks c a n
    asks c a n (inl r) = r
    asks c a n (inr r) = absurd r.2

more_both : {E X S : Type 0} (f : X → Stage E S S) (x : X) (xs ys : List X) → Within (next (each f xs) (each f ys)) (each f (xs ++ ys))
    → Within (next (each f (x ∷ xs)) (each f ys)) (each f (x ∷ xs ++ ys))
more_both {E} {X} {S} f x xs ys w = record {
  refuses = λ c a e r. refuses c a e r;
  passes = λ c a b p. (p.1.0, p.1.1, w.passes c p.1.0 b (p.0, p.1.2, p.2));
  asks = λ c a n r. asks c a n r;
}
  where
    refuses : (c : World) (a : S) (e : E) → (next (each f (x ∷ xs)) (each f ys)).refuses c a e → (each f (x ∷ xs ++ ys)).refuses c a e
    refuses c a e (inl (inl r)) = inl r
    refuses c a e (inl (inr r)) = inr (r.0, r.1, w.refuses c r.0 e (inl r.2))
    refuses c a e (inr r) = inr (r.1.0, r.1.1, w.refuses c r.1.0 e (inr (r.0, r.1.2, r.2)))

    asks : (c : World) (a : S) (n : List ℕ) → (next (each f (x ∷ xs)) (each f ys)).asks c a n → (each f (x ∷ xs ++ ys)).asks c a n
    asks c a n (inl (inl r)) = inl r
    asks c a n (inl (inr r)) = inr (r.0, r.1, w.asks c r.0 n (inl r.2))
    asks c a n (inr r) = inr (r.1.0, r.1.1, w.asks c r.1.0 n (inr (r.0, r.1.2, r.2)))

-- the stages of some and then those of others are those of all
pub each_both : {E X S : Type 0} (f : X → Stage E S S) (xs ys : List X) → Within (next (each f xs) (each f ys)) (each f (xs ++ ys))
each_both {E} {X} {S} f [] ys = record {
  refuses = λ c a e r. refuses c a e r;
  passes = λ c a b p. subst (λ v. (each f ys).passes c v b) p.1 p.2;
  asks = λ c a n r. asks c a n r;
}
  where
    refuses : (c : World) (a : S) (e : E) → (next stay (each f ys)).refuses c a e → (each f ys).refuses c a e
    refuses c a e (inl r) = absurd r
    refuses c a e (inr r) = subst (λ v. (each f ys).refuses c v e) r.1 r.2

    asks : (c : World) (a : S) (n : List ℕ) → (next {E = E} stay (each f ys)).asks c a n → (each f ys).asks c a n
    asks c a n (inl r) = absurd r
    asks c a n (inr r) = subst (λ v. (each f ys).asks c v n) r.1 r.2
each_both f (x ∷ xs) ys = more_both f x xs ys (each_both f xs ys)

-- ---- changes

ran_alike : {E F A A' B C : Type 0} (s : Stage E A B) (t : Stage F A' C) (a : A) (a' : A') (r : Result B (Stop E)) (q : Result C (Stop F)) (old new : InputState)
    → ((c : World) (n : List ℕ) → s.asks c a n → t.asks c a' n) → ((c : World) → Meets s c a r → Meets t c a' q)
    → (FailedAt old new r → FailedAt old new q) → Ran s a r old new → Ran t a' q old new
ran_alike s t a a' r q old new asks meets fault x = record {
  kept = x.kept;
  counted = x.counted;
  failed = fault x.failed;
  finds = record {
    found = x.finds.found;
    told = x.finds.told;
    once = x.finds.once;
    asked = λ c g n h. asks c n (x.finds.asked c g n h);
    meets = λ c g. meets c (x.finds.meets c g);
  };
  answered = x.answered;
}

pub ran_by : {E A B : Type 0} (f : A → Stage E A B) (a : A) (r : Result B (Stop E)) (old new : InputState) → Ran (f a) a r old new → Ran (by f) a r old new
ran_by f a r old new x = ran_alike (f a) (by f) a a r r old new (λ c n h. h) (meets_by f a r) (λ h. h) x
  where
    meets_by : {E A B : Type 0} (f : A → Stage E A B) (a : A) (r : Result B (Stop E)) (c : World) → Meets (f a) c a r → Meets (by f) c a r
    meets_by f a (Ok b) c m = m
    meets_by f a (Err (stops.Refused e)) c m = m
    meets_by f a (Err (stops.Failed n)) c m = m
    meets_by f a (Err stops.Memory) c m = tt

pub ran_over : {E A B C : Type 0} (f : A → B) (s : Stage E B C) (a : A) (r : Result C (Stop E)) (old new : InputState) → Ran s (f a) r old new → Ran (over f s) a r old new
ran_over f s a r old new x = ran_alike s (over f s) (f a) a r r old new (λ c n h. h) (meets_over f s a r) (λ h. h) x
  where
    meets_over : {E A B C : Type 0} (f : A → B) (s : Stage E B C) (a : A) (r : Result C (Stop E)) (c : World) → Meets s c (f a) r → Meets (over f s) c a r
    meets_over f s a (Ok b) c m = m
    meets_over f s a (Err (stops.Refused e)) c m = m
    meets_over f s a (Err (stops.Failed n)) c m = m
    meets_over f s a (Err stops.Memory) c m = tt

pub ran_into : {E A B C : Type 0} (f : A → B → C) (s : Stage E A B) (a : A) (b : B) (old new : InputState) → Ran s a (Ok b) old new → Ran (into f s) a (Ok (f a b)) old new
ran_into f s a b old new x = ran_alike s (into f s) a a (Ok b) (Ok (f a b)) old new (λ c n h. h) (λ c m. (b, m, refl)) (λ h. h) x

pub ran_into_stop : {E A B C : Type 0} (f : A → B → C) (s : Stage E A B) (a : A) (e : Stop E) (old new : InputState) → Ran s a (Err e) old new → Ran (into f s) a (Err e) old new
ran_into_stop {E} {A} {B} {C} f s a e old new x = ran_alike s (into f s) a a (Err e) (Err e) old new (λ c n h. h) (meets_into f s a e) (fault_of B C old new e) x
  where
    meets_into : {E A B C : Type 0} (f : A → B → C) (s : Stage E A B) (a : A) (e : Stop E) (c : World) → Meets s c a (Err e) → Meets (into f s) c a (Err e)
    meets_into f s a (stops.Refused e) c m = m
    meets_into f s a (stops.Failed n) c m = m
    meets_into f s a stops.Memory c m = tt

-- ---- one for each, one more

ran_alone : {E A B : Type 0} (s : Stage E A B) (a : A) (r : Result B (Stop E)) (old new : InputState) → Ran s a r old new → Ran (next s stay) a r old new
ran_alone s a (Ok b) old new x = ran_next s stay a b (Ok b) old new new (λ c d a b n p q h. h) x (ran_value stay b (Ok b) new (λ c. refl))
ran_alone s a (Err e) old new x = ran_stop s stay a e old new x

apart_alone : {E A B C : Type 0} (s : Stage E A B) (t : Stage E B C) → AsksOtherFiles s t → AsksOtherFiles s (next t stay)
apart_alone s t apart c d a b n p q (inl h) = apart c d a b n p q h
apart_alone s t apart c d a b n p q (inr h) = h.2

-- the stages of some passed, and that of one more is computed
pub ran_more : {E X S : Type 0} (f : X → Stage E S S) (xs : List X) (x : X) (a b : S) (r : Result S (Stop E)) (old mid new : InputState) → AsksOtherFiles (each f xs) (f x)
    → Ran (each f xs) a (Ok b) old mid → Ran (f x) b r mid new → Ran (each f (xs ++ x ∷ [])) a r old new
ran_more f xs x a b r old mid new apart p q =
    ran_within (next (each f xs) (each f (x ∷ []))) (each f (xs ++ x ∷ [])) (each_both f xs (x ∷ [])) a r old new
    (ran_next (each f xs) (each f (x ∷ [])) a b r old mid new (apart_alone (each f xs) (f x) apart) p (ran_alone (f x) b r mid new q))

-- the stages of some stopped, and so those of all
pub ran_front : {E X S : Type 0} (f : X → Stage E S S) (xs ys : List X) (a : S) (e : Stop E) (old new : InputState) → Ran (each f xs) a (Err e) old new → Ran (each f (xs ++ ys)) a (Err e) old new
ran_front f xs ys a e old new p =
    ran_within (next (each f xs) (each f ys)) (each f (xs ++ ys)) (each_both f xs ys) a (Err e) old new (ran_stop (each f xs) (each f ys) a e old new p)

-- ---- a file, and stages that ask for nothing

pub silent_apart : {E A B C : Type 0} (s : Stage E A B) (t : Stage E B C) → ((d : World) (b : B) (n : List ℕ) → ¬ (t.asks d b n)) → AsksOtherFiles s t
silent_apart s t silent c d a b n p q h = silent d b n h

-- a file that was fetched is that which the stage asks for
pub ran_file : {E A : Type 0} (n k : List ℕ) (limit bound : ℕ) (absent missing long wide : E) (a : A) (r : Result (List ℕ) (Stop E)) (old new : InputState)
    → n ≡ k → limit ≡ bound → absent ≡ missing → long ≡ wide
    → Ran (file {A = Unit {0}} n limit absent long) tt r old new → Ran (file {A = A} k bound missing wide) a r old new
ran_file {E} {A} n k limit bound absent missing long wide a r old new e f g h x =
    subst (λ v. Ran (file {A = A} v bound missing wide) a r old new) e
    (subst (λ v. Ran (file {A = A} n v missing wide) a r old new) f
    (subst (λ v. Ran (file {A = A} n limit v wide) a r old new) g
    (subst (λ v. Ran (file {A = A} n limit absent v) a r old new) h
    (ran_alike (file {A = Unit {0}} n limit absent long) (file {A = A} n limit absent long) tt a r r old new (λ c m i. i) (meets_file n limit absent long a r) (λ i. i) x))))
  where
    meets_file : {E A : Type 0} (n : List ℕ) (limit : ℕ) (absent long : E) (a : A) (r : Result (List ℕ) (Stop E)) (c : World)
        → Meets (file {A = Unit {0}} n limit absent long) c tt r → Meets (file {A = A} n limit absent long) c a r
    meets_file n limit absent long a (Ok b) c m = m
    meets_file n limit absent long a (Err (stops.Refused e)) c m = m
    meets_file n limit absent long a (Err (stops.Failed k)) c m = m
    meets_file n limit absent long a (Err stops.Memory) c m = tt

-- what was computed passes in some world
pub ran_passes : {E A B : Type 0} (s : Stage E A B) (a : A) (b : B) (old new : InputState) → Ran s a (Ok b) old new → (c : World) × s.passes c a b
ran_passes s a b old new x =
    let c = a_world old.holds x.finds.found x.finds.told x.finds.once in (c.0, x.finds.meets c.0 c.2)

-- ---- refusals said in other words

pub answer_passes : {E F A B : Type 0} (memory : E) (word : E → Option F) (s : Stage E A B) (a : A) (r : Result B E) (b : B) → r ≡ Ok b → Answers memory s a r → Gives (saying_if word s) a (Ok b)
answer_passes memory word s a r b is h = subst (Answers memory s a) is h

pub answer_refuses : {E F A B : Type 0} (memory : E) (word : E → Option F) (s : Stage E A B) (a : A) (r : Result B E) (e : E) (k : F) → r ≡ Err e → ¬ (e ≡ memory) → word e ≡ Some k
    → Answers memory s a r → Gives (saying_if word s) a (Err (stops.Refused k))
answer_refuses memory word s a r e k is other k_is h = of (subst (Answers memory s a) is h)
  where
    of : (e ≡ memory) ⊎ ((c : World) → s.refuses c a e) → Gives (saying_if word s) a (Err (stops.Refused k))
    of (inl m) = absurd (other m)
    of (inr r) = λ c. (e, r c, k_is)

-- where memory runs out in the end, there is no reason to give
pub ran_memory : {E A B : Type 0} (s : Stage E A B) (a : A) (b : B) (old new : InputState) → Ran s a (Ok b) old new → Ran s a (Err stops.Memory) old new
ran_memory s a b old new x = ran_alike s s a a (Ok b) (Err stops.Memory) old new (λ c n h. h) (λ c m. tt) (λ h. h) x

-- ---- calls with a word of their own for want of memory

pub answers_next : {E A B C : Type 0} (memory : E) (s : Stage E A B) (t : Stage E B C) (a : A) (b : B) (r : Result C E) → ((c : World) → s.passes c a b) → Answers memory t b r
    → Answers memory (next s t) a r
answers_next memory s t a b (Ok x) p h = λ c. (b, p c, h c)
answers_next memory s t a b (Err e) p (inl is) = inl is
answers_next memory s t a b (Err e) p (inr h) = inr (λ c. inr (b, p c, h c))

pub answers_stop : {E A B C : Type 0} (memory : E) (s : Stage E A B) (t : Stage E B C) (a : A) (e : E) → (e ≡ memory) ⊎ ((c : World) → s.refuses c a e) → Answers memory (next s t) a (Err e)
answers_stop memory s t a e (inl is) = inl is
answers_stop memory s t a e (inr h) = inr (λ c. inl (h c))

pub answers_made : {E A B C : Type 0} (memory : E) (f : A → B → C) (s : Stage E A B) (a : A) (b : B) → Answers memory s a (Ok b) → Answers memory (into f s) a (Ok (f a b))
answers_made memory f s a b h = λ c. (b, h c, refl)

pub answers_unmade : {E A B C : Type 0} (memory : E) (f : A → B → C) (s : Stage E A B) (a : A) (e : E) → Answers memory s a (Err e) → Answers memory (into f s) a (Err e)
answers_unmade memory f s a e h = h

-- what is answered of an error that is handed on
pub as_error : {T E : Type 0} (r : Result T E) (x : E) (P : Result T E → Type 0) → IsErrAnd r (λ y. y ≡ x) → P (Err x) → P r
as_error (Ok v) x P q p = absurd q
as_error (Err e) x P q p = subst (λ y. P (Err y)) (sym q) p

-- ---- what ran, said in other words

pub ran_saying : {E F A B : Type 0} (f : E → F) (s : Stage E A B) (a : A) (r : Result B (Stop E)) (q : Result B (Stop F)) (old new : InputState) → q ≡ with_refusal f r → Ran s a r old new
    → Ran (saying f s) a q old new
ran_saying {E} {F} {A} {B} f s a r q old new is x =
    subst (λ v. Ran (saying f s) a v old new) (sym is) (ran_alike s (saying f s) a a r (with_refusal f r) old new (λ c n h. h) (meets_said r) (failed_said r) x)
  where
    meets_said : (r : Result B (Stop E)) (c : World) → Meets s c a r → Meets (saying f s) c a (with_refusal f r)
    meets_said (Ok b) c m = m
    meets_said (Err (stops.Refused e)) c m = (e, m, refl)
    meets_said (Err (stops.Failed n)) c m = m
    meets_said (Err stops.Memory) c m = tt

    failed_said : (r : Result B (Stop E)) → FailedAt old new r → FailedAt old new (with_refusal f r)
    failed_said (Ok b) h = h
    failed_said (Err (stops.Refused e)) h = h
    failed_said (Err (stops.Failed n)) h = h
    failed_said (Err stops.Memory) h = h

-- ---- what is passed becomes one of these

pub ran_become : {E A B C : Type 0} (R : A → B → C → Type 0) (s : Stage E A B) (a : A) (b : B) (x : C) (old new : InputState) → R a b x → Ran s a (Ok b) old new → Ran (become R s) a (Ok x) old new
ran_become R s a b x old new h ran = ran_alike s (become R s) a a (Ok b) (Ok x) old new (λ c n k. k) (λ c m. (b, m, h)) (λ k. k) ran

pub gives_become : {E A B C : Type 0} (R : A → B → C → Type 0) (s : Stage E A B) (a : A) (b : B) (x : C) → R a b x → Gives s a (Ok b) → Gives (become R s) a (Ok x)
gives_become R s a b x h g = λ c. (b, g c, h)

pub gives_become_stop : {E A B C : Type 0} (R : A → B → C → Type 0) (s : Stage E A B) (a : A) (e : Stop E) → Gives s a (Err e) → Gives (become R s) a (Err e)
gives_become_stop R s a (stops.Refused e) g = g
gives_become_stop R s a (stops.Failed n) g = g
gives_become_stop R s a stops.Memory g = tt
