-- Which elements jobs name, one list behind the other.
use Rattle.std.proofs.Common.{◌≡◌, ℕ, zero, suc, List, [], ◌∷◌, ◌++◌, sym, refl, ap, ◌∙◌, append-nil}
use Rattle.two_lanes.specs.declared.jobs.Lane.{Lane}
use Rattle.two_lanes.specs.declared.jobs.Lane.TheVariants.{A, B}
use Rattle.two_lanes.specs.declared.jobs.LaneJob.{LaneJob}
use Rattle.two_lanes.specs.declared.jobs.LaneJob.TheVariants.{Send, Last, Back}
use Rattle.two_lanes.specs.Jobs.{all_jobs, first_jobs, of}
use Rattle.two_lanes.specs.Numbers.{HasAll, numbers, upto}

pub numbers-append : (lane : Lane) (x y : List LaneJob)
    → numbers lane (x ++ y) ≡ numbers lane x ++ numbers lane y
numbers-append lane [] y = refl
numbers-append A (Send A n ∷ x) y = ap (λ l. n ∷ l) (numbers-append A x y)
numbers-append A (Send B n ∷ x) y = numbers-append A x y
numbers-append B (Send A n ∷ x) y = numbers-append B x y
numbers-append B (Send B n ∷ x) y = ap (λ l. n ∷ l) (numbers-append B x y)
numbers-append lane (Last l ∷ x) y = numbers-append lane x y
numbers-append lane (Back ∷ x) y = numbers-append lane x y

-- those of the other lane name none
numbers-of : (lane : Lane) (jobs : List LaneJob) → numbers lane (of lane jobs) ≡ numbers lane jobs
numbers-of lane [] = refl
numbers-of A (Send A n ∷ jobs) = ap (λ l. n ∷ l) (numbers-of A jobs)
numbers-of A (Send B n ∷ jobs) = numbers-of A jobs
numbers-of B (Send A n ∷ jobs) = numbers-of B jobs
numbers-of B (Send B n ∷ jobs) = ap (λ l. n ∷ l) (numbers-of B jobs)
numbers-of A (Last A ∷ jobs) = numbers-of A jobs
numbers-of A (Last B ∷ jobs) = numbers-of A jobs
numbers-of B (Last A ∷ jobs) = numbers-of B jobs
numbers-of B (Last B ∷ jobs) = numbers-of B jobs
numbers-of A (Back ∷ jobs) = numbers-of A jobs
numbers-of B (Back ∷ jobs) = numbers-of B jobs

one_number : (lane : Lane) (n : ℕ) → numbers lane (Send lane n ∷ []) ≡ n ∷ []
one_number A n = refl
one_number B n = refl

pub first_numbers : (lane : Lane) (n : ℕ) → numbers lane (first_jobs lane n) ≡ upto n
first_numbers lane zero = refl
first_numbers lane (suc n) = numbers-append lane (first_jobs lane n) (Send lane n ∷ [])
    ∙ ap (λ l. l ++ numbers lane (Send lane n ∷ [])) (first_numbers lane n)
    ∙ ap (λ l. upto n ++ l) (one_number lane n)

other_numbers_a : (n : ℕ) → numbers A (first_jobs B n) ≡ []
other_numbers_a zero = refl
other_numbers_a (suc n) = numbers-append A (first_jobs B n) (Send B n ∷ [])
    ∙ append-nil (numbers A (first_jobs B n)) ∙ other_numbers_a n

other_numbers_b : (n : ℕ) → numbers B (first_jobs A n) ≡ []
other_numbers_b zero = refl
other_numbers_b (suc n) = numbers-append B (first_jobs A n) (Send A n ∷ [])
    ∙ append-nil (numbers B (first_jobs A n)) ∙ other_numbers_b n

-- all jobs of a lane name all its elements
pub all_numbers : (lane : Lane) (n : ℕ) (got : List LaneJob) → of lane got ≡ all_jobs lane n
    → numbers lane got ≡ upto n
all_numbers lane n got is = sym (numbers-of lane got) ∙ ap (numbers lane) is
    ∙ numbers-append lane (first_jobs lane n) (Last lane ∷ [])
    ∙ append-nil (numbers lane (first_jobs lane n)) ∙ first_numbers lane n

-- of both lists, one behind the other, where jobs before them name nothing
pub one_by_one : (jobs : List LaneJob) (a b : ℕ) → numbers A jobs ≡ [] → numbers B jobs ≡ []
    → HasAll a b ((jobs ++ first_jobs A a) ++ first_jobs B b)
one_by_one jobs a b none_a none_b = record {
  of_a = numbers-append A (jobs ++ first_jobs A a) (first_jobs B b)
      ∙ ap (λ l. numbers A (jobs ++ first_jobs A a) ++ l) (other_numbers_a b)
      ∙ append-nil (numbers A (jobs ++ first_jobs A a))
      ∙ numbers-append A jobs (first_jobs A a)
      ∙ ap (λ l. l ++ numbers A (first_jobs A a)) none_a ∙ first_numbers A a;
  of_b = numbers-append B (jobs ++ first_jobs A a) (first_jobs B b)
      ∙ ap (λ l. l ++ numbers B (first_jobs B b)) (numbers-append B jobs (first_jobs A a)
      ∙ ap (λ l. l ++ numbers B (first_jobs A a)) none_b ∙ other_numbers_b a)
      ∙ first_numbers B b;
}
