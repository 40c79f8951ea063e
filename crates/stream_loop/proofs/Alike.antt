-- Two ways to say what is written of a stream are one where they write and remember the same.
use Rattle.std.proofs.{Common.◌≡◌, Common.Option, Common.ap, Common.◌∙◌, Math.Path.fun_ext}
use Rattle.unit_streams.specs.Tellers.{Teller}

pub alike : {S E R : Type 0} (t u : Teller S E R) → t.start ≡ u.start
    → ((s : S) (e : E) → t.told s e ≡ u.told s e) → ((s : S) (e : E) → t.next s e ≡ u.next s e)
    → ((s : S) (o : Option R) → t.ends s o ≡ u.ends s o) → t ≡ u
alike t u start told next ends =
    ap (λ s. record { start = s; told = t.told; next = t.next; ends = t.ends }) start
    ∙ ap (λ f. record { start = u.start; told = f; next = t.next; ends = t.ends })
    (fun_ext (λ s. fun_ext (told s)))
    ∙ ap (λ f. record { start = u.start; told = u.told; next = f; ends = t.ends })
    (fun_ext (λ s. fun_ext (next s)))
    ∙ ap (λ f. record { start = u.start; told = u.told; next = u.next; ends = f })
    (fun_ext (λ s. fun_ext (ends s)))
