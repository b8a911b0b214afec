-- What follows where a call was done.
use Rattle.std.proofs.Common.{Result, Ok, Err, OnOk, IfOk}

pub on_ok : {T E : Type 0} {A B : Type 0} (r : Result T E) → (A → B) → OnOk r A → OnOk r B
on_ok (Ok x) f a = f a
on_ok (Err e) f a = a

pub on_both : {T E : Type 0} {A B C : Type 0} (r : Result T E) → (A → B → C) → OnOk r A → OnOk r B → OnOk r C
on_both (Ok x) f a b = f a b
on_both (Err e) f a b = a

pub on_three : {T E : Type 0} {A B C D : Type 0} (r : Result T E) → (A → B → C → D) → OnOk r A → OnOk r B → OnOk r C → OnOk r D
on_three (Ok x) f a b c = f a b c
on_three (Err e) f a b c = a

pub if_then : {T E : Type 0} (r : Result T E) (A B : T → Type 0) → ((x : T) → A x → B x) → IfOk r A → IfOk r B
if_then (Ok x) A B f a = f x a
if_then (Err e) A B f a = a

pub if_on : {T E : Type 0} (r : Result T E) (A : T → Type 0) (B : Type 0) → ((x : T) → A x → B) → IfOk r A → OnOk r B
if_on (Ok x) A B f a = f x a
if_on (Err e) A B f a = a
