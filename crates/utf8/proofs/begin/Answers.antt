-- `utf8::begin` meets its contract: each arm is a stretch of first octets, and what may follow is computed at its first.
use mathlib.Core.Path.{refl, sym, ap, ◌∙◌}
use native.Mathlib.Omega.{arith}
use Rattle.utf8.specs.Grammar.{begun, utf8_char, utf8_1, utf8_2, utf8_3, utf8_4, tail}
use Rattle.utf8.specs.State.{next_of}
use Rattle.utf8.proofs.Stretch.{stretch, begun_same}
use Rattle.utf8.proofs.begin.Goals as goal

pub returns-in-224 : goal.returns-in-224
unfolding begun stretch utf8_char utf8_1 utf8_2 utf8_3 utf8_4 tail
returns-in-224 c = ap next_of c.awaits.ensures ∙ sym (begun_same 0xE0 0xE0 c.args.b (omega arith) (omega arith) utf8_char refl)

pub returns-in-237 : goal.returns-in-237
unfolding begun stretch utf8_char utf8_1 utf8_2 utf8_3 utf8_4 tail
returns-in-237 c = ap next_of c.awaits-in-237.ensures ∙ sym (begun_same 0xED 0xED c.args.b (omega arith) (omega arith) utf8_char refl)

pub returns-in-240 : goal.returns-in-240
unfolding begun stretch utf8_char utf8_1 utf8_2 utf8_3 utf8_4 tail
returns-in-240 c = ap next_of c.awaits-in-240.ensures ∙ sym (begun_same 0xF0 0xF0 c.args.b (omega arith) (omega arith) utf8_char refl)

pub returns-in-244 : goal.returns-in-244
unfolding begun stretch utf8_char utf8_1 utf8_2 utf8_3 utf8_4 tail
returns-in-244 c = ap next_of c.awaits-in-244.ensures ∙ sym (begun_same 0xF4 0xF4 c.args.b (omega arith) (omega arith) utf8_char refl)

pub returns-in-0-to-127 : goal.returns-in-0-to-127
unfolding begun stretch utf8_char utf8_1 utf8_2 utf8_3 utf8_4 tail
returns-in-0-to-127 c = ap next_of c.awaits-in-0-to-127.ensures ∙ sym (begun_same 0x00 0x7F c.args.b (omega arith) (omega arith) utf8_char refl)

pub returns-in-194-to-223 : goal.returns-in-194-to-223
unfolding begun stretch utf8_char utf8_1 utf8_2 utf8_3 utf8_4 tail
returns-in-194-to-223 c = ap next_of c.awaits-in-194-to-223.ensures ∙ sym (begun_same 0xC2 0xDF c.args.b (omega arith) (omega arith) utf8_char refl)

pub returns-in-225-to-236 : goal.returns-in-225-to-236
unfolding begun stretch utf8_char utf8_1 utf8_2 utf8_3 utf8_4 tail
returns-in-225-to-236 c = ap next_of c.awaits-in-225-to-236.ensures ∙ sym (begun_same 0xE1 0xEC c.args.b (omega arith) (omega arith) utf8_char refl)

pub returns-in-238-to-239 : goal.returns-in-238-to-239
unfolding begun stretch utf8_char utf8_1 utf8_2 utf8_3 utf8_4 tail
returns-in-238-to-239 c = ap next_of c.awaits-in-238-to-239.ensures ∙ sym (begun_same 0xEE 0xEF c.args.b (omega arith) (omega arith) utf8_char refl)

pub returns-in-241-to-243 : goal.returns-in-241-to-243
unfolding begun stretch utf8_char utf8_1 utf8_2 utf8_3 utf8_4 tail
returns-in-241-to-243 c = ap next_of c.awaits-in-241-to-243.ensures ∙ sym (begun_same 0xF1 0xF3 c.args.b (omega arith) (omega arith) utf8_char refl)

pub returns-in_default : goal.returns-in_default
unfolding begun stretch utf8_char utf8_1 utf8_2 utf8_3 utf8_4 tail
returns-in_default c = sym (begun_same 0x80 0xC1 c.args.b (omega arith) (omega arith) utf8_char refl)

pub returns-in_default-2 : goal.returns-in_default-2
unfolding begun stretch utf8_char utf8_1 utf8_2 utf8_3 utf8_4 tail
returns-in_default-2 c = sym (begun_same 0xF5 0xFF c.args.b (omega arith) (omega arith) utf8_char refl)
