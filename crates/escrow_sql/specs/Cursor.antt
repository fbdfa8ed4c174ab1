-- Helps: what a cursor returns, from the tokens that it is at.
use Rattle.std.specs.Prelude.{◌≡◌, Result, Ok, Err, List}
use Rattle.escrow_sql.specs.Grammar.{Grammar, token}
use Rattle.escrow_sql.specs.declared.halt.Halt.{Halt}
use Rattle.escrow_sql.specs.declared.halt.Halt.TheVariants as halt
use Rattle.escrow_sql.specs.declared.token.Kind.{Kind}
use Rattle.escrow_sql.specs.declared.token.Token.{Token}

-- a token that means nothing by itself
abbrev pub bare : Kind → Grammar (Unit {0})
bare like = token like (λ k. tt)

-- where a cursor that halted is: at a fault, reading stops at the same tokens
abbrev pub Halts : {V : Type 0} → List Token → Halt → Result (V × List Token) (List Token) → Type 0
Halts rest halt.Syntax read = read ≡ Err rest
Halts rest halt.Memory read = Unit {0}

-- a cursor that is at these tokens now returned what reading gives
abbrev pub Advances : {V : Type 0} → List Token → Result V Halt → Result (V × List Token) (List Token) → Type 0
Advances rest (Ok v) read = read ≡ Ok (v, rest)
Advances rest (Err h) read = Halts rest h read

-- a cursor that read all of its tokens, or is at these now, returned what reading gives
abbrev pub Ends : {V : Type 0} → List Token → Result V Halt → Result V (List Token) → Type 0
Ends rest (Ok v) read = read ≡ Ok v
Ends rest (Err halt.Syntax) read = read ≡ Err rest
Ends rest (Err halt.Memory) read = Unit {0}
