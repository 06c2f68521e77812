-- The demo files of few employees, and the records of later ones, computed.
use Rattle.std.proofs.Common.{◌≡◌, ◌≤◌, ℕ, [], ◌∷◌, codes, refl, arith}
use Rattle.std.specs.Fmt.{digits}
use Rattle.dx_gen.specs.declared.files.TheConstants.{EMPLOYEES}
use Rattle.dx_gen.specs.Demo.{demo, dept_text, emp_text, phone_text, emp_record, phone_record, demo_mapping_text}

-- the most employees that there may be
most : EMPLOYEES ≡ 100000
most = refl

as_many : 100000 ≤ EMPLOYEES
as_many = omega (arith, most)

one_too_many : ¬ (100001 ≤ EMPLOYEES)
one_too_many h = omega (arith, most, h)

-- the whole text of the mapping
mapping : demo_mapping_text
    ≡ codes "mapping 1;\nsource {\n  set dept { dname, city; key (dname); }\n  set emp { eid, name, dname; key (eid); ref (dname) -> dept (dname); }\n  set phone { eid, num; ref (eid) -> emp (eid); }\n}\ntarget {\n  set unit { uname, place; key (uname);\n    set staff { sid, sname, phone; key (sid); }\n  }\n  set number { num, who; }\n}\nline dept.dname -> unit.uname;\nline dept.city -> unit.place;\nline emp.eid -> staff.sid;\nline emp.name -> staff.sname;\nline phone.num -> staff.phone;\nline phone.num -> number.num;\nline emp.name -> number.who;\n"
mapping = refl

-- ten departments, of which the odd ones have a town
departments : dept_text ≡ codes "dname,city\nd0,\nd1,Town 1\nd2,\nd3,Town 3\nd4,\nd5,Town 5\nd6,\nd7,Town 7\nd8,\nd9,Town 9\n"
unfolding digits
departments = refl

-- employees from 0 on
employees : emp_text 3 ≡ codes "eid,name,dname\ne0,\"Name, 0\",d0\ne1,\"Name, 1\",d1\ne2,\"Name, 2\",d2\n"
unfolding digits
employees = refl

-- each fourth has a telephone
telephones : phone_text 9 ≡ codes "eid,num\ne0,555-0\ne4,555-4\ne8,555-8\n"
unfolding digits
telephones = refl

-- after 50 employees the names come again, after 10 the departments
fiftieth : emp_record 50 ≡ codes "e50,\"Name, 0\",d0\n"
unfolding digits
fiftieth = refl

later : emp_record 99999 ≡ codes "e99999,\"Name, 49\",d9\n"
unfolding digits
later = refl

none_later : phone_record 99999 ≡ []
none_later = refl

-- the files in their order
files : (n : ℕ) → demo n ≡ (codes "mapping.clio", demo_mapping_text) ∷ (codes "dept.csv", dept_text) ∷ (codes "emp.csv", emp_text n) ∷ (codes "phone.csv", phone_text n) ∷ []
files n = refl
