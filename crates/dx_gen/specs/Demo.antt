-- The demo files, by a number of employees.
use Rattle.std.specs.Prelude.{ℕ, zero, suc, List, [], ◌∷◌, ◌++◌, ◌%◌, cond, eqb, codes, decimal}
use Rattle.dx_base.specs.Entries.{Entry}
use Rattle.dx_base.specs.Texts.{Text}

-- the texts of the numbers below n, one after the other
abbrev pub each_below : (ℕ → Text) → ℕ → Text
each_below text zero = []
each_below text (suc n) = each_below text n ++ text n

-- ---- the mapping

-- sets of departments, employees and telephones
abbrev pub demo_source_text : Text
demo_source_text =
    codes "source {\n"
    ++ (codes "  set dept { dname, city; key (dname); }\n"
    ++ (codes "  set emp { eid, name, dname; key (eid); ref (dname) -> dept (dname); }\n"
    ++ (codes "  set phone { eid, num; ref (eid) -> emp (eid); }\n" ++ codes "}\n")))

-- sets of units with their staff, and of numbers
abbrev pub target_text : Text
target_text =
    codes "target {\n"
    ++ (codes "  set unit { uname, place; key (uname);\n"
    ++ (codes "    set staff { sid, sname, phone; key (sid); }\n"
    ++ (codes "  }\n" ++ (codes "  set number { num, who; }\n" ++ codes "}\n"))))

-- lines from the one to the other
abbrev pub demo_lines_text : Text
demo_lines_text =
    codes "line dept.dname -> unit.uname;\n"
    ++ (codes "line dept.city -> unit.place;\n"
    ++ (codes "line emp.eid -> staff.sid;\n"
    ++ (codes "line emp.name -> staff.sname;\n"
    ++ (codes "line phone.num -> staff.phone;\n"
    ++ (codes "line phone.num -> number.num;\n" ++ codes "line emp.name -> number.who;\n")))))

abbrev pub demo_mapping_text : Text
demo_mapping_text = codes "mapping 1;\n" ++ (demo_source_text ++ (target_text ++ demo_lines_text))

-- ---- the rows

-- a department: an odd one has a town
abbrev pub town : ℕ → Text
town d = cond (eqb (d % 2) 0) [] (codes "Town " ++ decimal d)

abbrev pub dept_record : ℕ → Text
dept_record d = codes "d" ++ (decimal d ++ (codes "," ++ (town d ++ codes "\n")))

-- an employee: there are 50 names and 10 departments
abbrev pub emp_record : ℕ → Text
emp_record i =
    codes "e" ++ (decimal i ++ (codes ",\"Name, "
    ++ (decimal (i % 50) ++ (codes "\",d" ++ (decimal (i % 10) ++ codes "\n")))))

-- the telephone of an employee: each fourth has one
abbrev pub phone_record : ℕ → Text
phone_record i = cond (eqb (i % 4) 0) (codes "e" ++ (decimal i ++ (codes ",555-" ++ (decimal i ++ codes "\n")))) []

-- ten departments
abbrev pub dept_text : Text
dept_text = codes "dname,city\n" ++ each_below dept_record 10

-- so many employees, and their telephones
abbrev pub emp_text : ℕ → Text
emp_text number = codes "eid,name,dname\n" ++ each_below emp_record number

abbrev pub phone_text : ℕ → Text
phone_text number = codes "eid,num\n" ++ each_below phone_record number

-- ---- the files

abbrev pub demo : ℕ → List Entry
demo number =
    (codes "mapping.clio", demo_mapping_text)
    ∷ (codes "dept.csv", dept_text)
    ∷ (codes "emp.csv", emp_text number)
    ∷ (codes "phone.csv", phone_text number)
    ∷ []
